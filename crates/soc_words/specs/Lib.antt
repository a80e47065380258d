pub mod Words
mod WordExamples
