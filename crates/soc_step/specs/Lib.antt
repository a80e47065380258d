pub mod Examples
pub mod Machine
pub mod Step
pub mod Surroundings
pub mod Views
