pub mod Log
pub mod Seats
pub mod Asked
pub mod inner
