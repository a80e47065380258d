pub mod Cursor
pub mod inner
pub mod Names
pub mod Options
