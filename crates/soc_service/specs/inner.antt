pub mod Halls
pub mod Options
pub mod Outcomes
pub mod Stays
