pub mod FoundLaws
pub mod WalkLaws
