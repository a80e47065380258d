pub mod Batches
pub mod Books
pub mod Ids
pub mod inner
pub mod Keeping
pub mod Openings
