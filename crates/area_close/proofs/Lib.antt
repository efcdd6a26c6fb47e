pub mod CloseLaws
