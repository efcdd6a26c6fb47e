pub mod TakeOutLaws
