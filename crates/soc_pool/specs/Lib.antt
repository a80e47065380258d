pub mod Ring
pub mod Passes
pub mod inner
