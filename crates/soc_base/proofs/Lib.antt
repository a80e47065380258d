pub mod Crossings
pub mod Cursors
pub mod Folk
pub mod Fronts
pub mod NamedPairs
pub mod Places
