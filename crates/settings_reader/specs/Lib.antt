pub mod ReadSettings
