pub mod Ends
pub mod Hosts
pub mod Lines
pub mod Lives
pub mod Storm
pub mod Sweep
pub mod inner
