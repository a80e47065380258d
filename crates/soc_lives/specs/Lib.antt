mod Examples
pub mod Laws
pub mod Lives
pub mod Runs
