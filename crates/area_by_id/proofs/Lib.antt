pub mod ByIdLaws
pub mod CountLaws
pub mod ToldLaws
pub mod LackLaws
pub mod NumberLaws
