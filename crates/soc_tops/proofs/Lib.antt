pub mod PieceLemmas
pub mod ReadingLemmas
