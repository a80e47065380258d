pub mod Answered
pub mod Asked
pub mod Codes
mod Counted
mod Options
pub mod Turned
mod Worked
