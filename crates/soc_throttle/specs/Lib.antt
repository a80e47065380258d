pub mod Rules
pub mod Verdicts
pub mod Refusals
mod Examples
