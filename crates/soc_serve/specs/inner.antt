pub mod Hosting
pub mod Serving
pub mod Storm
pub mod Sweeping
