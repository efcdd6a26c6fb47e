pub mod CaseLaws
pub mod RoomLaws
pub mod TableLaws
pub mod Examples
