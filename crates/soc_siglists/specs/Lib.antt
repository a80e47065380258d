pub mod Patterns
pub mod Entries
pub mod Lists
pub mod Reading
pub mod Makers
pub mod inner
