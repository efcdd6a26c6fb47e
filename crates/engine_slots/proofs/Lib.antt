pub mod WriteLaws
pub mod BesideLaws
pub mod ListLaws
pub mod SlotLaws
