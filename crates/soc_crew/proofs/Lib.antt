pub mod Desks
pub mod Lists
pub mod Passes
pub mod Replaced
pub mod Seats
