pub mod Parts
pub mod Reading
pub mod Sizes
pub mod Writing
