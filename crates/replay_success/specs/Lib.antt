pub mod SuccessLine
