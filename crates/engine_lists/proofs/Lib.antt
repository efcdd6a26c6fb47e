pub mod StartLaws
pub mod CopyLaws
pub mod CallLaws
pub mod Theorems
