pub mod GrantLemmas
pub mod QueryLemmas
pub mod ReadingLemmas
