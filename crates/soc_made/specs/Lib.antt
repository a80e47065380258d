pub mod Dump
pub mod Made
pub mod Makes
mod MadeExamples
