pub mod Keeps
pub mod Crossing
pub mod Rolls
