pub mod StatusSize
pub mod StatusPartial
pub mod StatusResponse
pub mod StatusReads
pub mod StatusSays
pub mod StatusWriter
pub mod StatusAlike
pub mod LimitLaws
