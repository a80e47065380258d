-- Words of private contracts and of proofs: one frame more, one text more, one word more.
pub mod Candidates
pub mod Fronts
pub mod Protos
pub mod Steps
pub mod Words
