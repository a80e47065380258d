-- Words of private contracts and of proofs.
pub mod Leaders
pub mod Places
pub mod Ranks
pub mod Runs
pub mod Selections
pub mod Walks
