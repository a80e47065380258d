pub mod Ahead
pub mod DiskKept
pub mod DiskStop
pub mod Disks
pub mod Told
pub mod Untold
pub mod Windows
