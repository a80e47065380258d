-- Words of private contracts and of proofs: how a compiled pattern stands to its text, what matches begin with, automata,
-- tables of texts, and what reading one file answers.
pub mod Compiled
pub mod Automata
pub mod Literals
pub mod Leads
pub mod OneFile
