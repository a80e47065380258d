pub mod Counts
pub mod Spaces
pub mod Walks
