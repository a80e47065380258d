pub mod Calendar
pub mod Ids
pub mod Lengths
pub mod PairLists
pub mod Readers
pub mod Records
