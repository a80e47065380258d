pub mod Asked
pub mod Doors
pub mod Serving
pub mod Tallies
pub mod inner
