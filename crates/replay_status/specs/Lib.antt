pub mod StatusLines
