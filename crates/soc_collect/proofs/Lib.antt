pub mod Askings
pub mod Rises
mod ServingLemmas
