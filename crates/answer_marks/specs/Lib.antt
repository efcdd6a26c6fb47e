pub mod BitmapAnswers
pub mod MarksReported
