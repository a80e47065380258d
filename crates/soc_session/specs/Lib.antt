pub mod Desk
mod Examples
pub mod Json
pub mod Laws
pub mod Lines
pub mod Messages
pub mod Parameters
pub mod Plan
pub mod Replies
pub mod Session
pub mod inner
