-- Words of private contracts and of proofs: what the store keeps of a field.
pub mod Keys
pub mod Parts
pub mod Postings
