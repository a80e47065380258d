pub mod Standing
pub mod Findings
pub mod Opened
