pub mod Blames
pub mod Check
pub mod Documents
pub mod Ends
pub mod Export
pub mod Files
pub mod Lives
pub mod Opening
pub mod Refusals
pub mod Replay
pub mod Serving
pub mod Settings
pub mod Setup
pub mod Stacks
pub mod Tasks
pub mod TokenText
mod SettingExamples
pub mod inner
