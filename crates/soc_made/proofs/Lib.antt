pub mod DumpLemmas
pub mod MadeLemmas
pub mod MakeLemmas
pub mod Pieces
