pub mod CaseLaws
pub mod RoomLaws
pub mod HeldLaws
pub mod SlotLaws
pub mod ReadLaws
