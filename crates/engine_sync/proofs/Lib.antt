pub mod StartLaws
pub mod SyncLaws
