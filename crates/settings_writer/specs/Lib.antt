pub mod WriteSettings
