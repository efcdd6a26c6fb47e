pub mod Fills
pub mod Rounds
pub mod OneRound
pub mod TooMany
