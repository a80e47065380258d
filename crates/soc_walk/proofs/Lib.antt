pub mod FrameLemmas
pub mod PlaceLemmas
pub mod WalkLemmas
