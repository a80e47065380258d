pub mod Answers
pub mod Changes
pub mod Due
pub mod Turns
pub mod Desks
pub mod Works
pub mod inner
