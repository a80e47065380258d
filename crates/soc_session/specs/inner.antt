-- Words of private contracts and of proofs: a session message by message.
pub mod Actions
pub mod Arrivals
pub mod Askable
pub mod Intakes
pub mod Passing
pub mod Plans
pub mod Steps
