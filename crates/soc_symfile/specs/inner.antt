pub mod Sources
pub mod Places
pub mod Tables
pub mod SymFile
