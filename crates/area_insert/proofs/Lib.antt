pub mod PutInLaws
