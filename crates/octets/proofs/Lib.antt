pub mod NumberLaws
pub mod PutLaws
pub mod PutParts
pub mod PartLaws
pub mod OctetLaws
pub mod UpperLaws
pub mod LowFirstLaws
