pub mod Grounds
pub mod Changes
mod Examples
pub mod Logs
pub mod Runs
