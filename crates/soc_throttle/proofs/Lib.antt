pub mod AcceptAll
pub mod Names
