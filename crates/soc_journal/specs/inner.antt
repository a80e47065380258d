pub mod Gates
pub mod Sealed
pub mod Staging
