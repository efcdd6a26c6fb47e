pub mod CutLaws
pub mod JoinReads
