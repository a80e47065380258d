pub mod Idle
pub mod Logs
pub mod Runs
pub mod Sharing
pub mod Crossing
