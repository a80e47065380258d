pub mod Examples
pub mod inner
pub mod Openings
pub mod Vaults
