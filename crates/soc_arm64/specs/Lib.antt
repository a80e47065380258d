pub mod Context
pub mod Examples
pub mod Machine
pub mod Step
