pub mod Snapshots
pub mod Stretches
pub mod Meetings
pub mod Engine
pub mod Disk
pub mod World
pub mod Claims
