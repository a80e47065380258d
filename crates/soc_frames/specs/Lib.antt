pub mod Depth
pub mod Collapse
pub mod Cpp
pub mod Rust
pub mod Frames
pub mod inner
mod Examples
