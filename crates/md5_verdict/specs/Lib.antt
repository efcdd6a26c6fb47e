pub mod Verdict
pub mod VerdictOn
