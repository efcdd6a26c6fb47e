pub mod SettingsAnswers
