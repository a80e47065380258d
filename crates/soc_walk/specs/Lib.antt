pub mod Architecture
pub mod Machines
mod Orders
pub mod Process
pub mod Views
pub mod Walk
pub mod inner
