pub mod Ends
mod KeyExamples
pub mod Keys
pub mod Lines
pub mod inner
