pub mod Asks
pub mod Basis
pub mod Batches
pub mod Commands
pub mod Counts
pub mod Decisions
pub mod Desk
pub mod Grows
pub mod Keeps
pub mod Kinds
pub mod Log
pub mod Opens
pub mod Reads
pub mod Runs
pub mod State
pub mod View
mod Examples
pub mod Laws
