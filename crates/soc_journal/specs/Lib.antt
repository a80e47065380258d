pub mod Bodies
pub mod Entries
mod Examples
pub mod Openings
pub mod States
pub mod Text
pub mod inner
