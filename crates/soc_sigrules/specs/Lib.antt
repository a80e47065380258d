pub mod Chars
pub mod Modules
pub mod Stacks
pub mod Shutdown
pub mod Spaces
pub mod Rules
pub mod Signatures
pub mod inner
mod Examples
