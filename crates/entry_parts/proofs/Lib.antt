pub mod PathLaws
pub mod PropertyLaws
