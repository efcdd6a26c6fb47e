pub mod DescriptorListLaws
pub mod HoleListLaws
pub mod AcceptedLaws
pub mod ApartLaws
pub mod PairLaws
pub mod PairsRead
