pub mod Keys
pub mod Lists
mod Examples
