-- Words of private contracts and of proofs: what they see of values that borrow from a body.
pub mod Meeting
pub mod Sections
pub mod Tails
pub mod Views
