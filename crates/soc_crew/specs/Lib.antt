pub mod Gains
pub mod Jobs
pub mod inner
