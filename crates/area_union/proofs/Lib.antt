pub mod PutLaws
pub mod StoredLaws
pub mod JoinLaws
