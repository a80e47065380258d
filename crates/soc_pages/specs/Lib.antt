pub mod Escape
pub mod Pages
