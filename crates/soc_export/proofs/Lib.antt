pub mod Asked
pub mod KeyLemmas
pub mod RowLines
pub mod Shown
