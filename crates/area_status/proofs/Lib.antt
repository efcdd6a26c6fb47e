pub mod WriteStatusLaws
