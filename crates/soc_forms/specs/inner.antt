-- Words of private contracts and of proofs.
pub mod ExtraViews
pub mod FieldViews
