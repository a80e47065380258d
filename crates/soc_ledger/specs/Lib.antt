pub mod Due
pub mod Events
mod Examples
pub mod inner
pub mod Legal
pub mod Reported
pub mod State
