pub mod Md5Answers
pub mod VerdictReported
