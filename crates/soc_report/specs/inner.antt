-- Words of private contracts and of proofs: parts of paths, chains of symbol files, reading part by part, kits, stacks,
-- what the program's values say, and that reports tell of their crashes.
pub mod Parts
pub mod Index
pub mod Reading
pub mod Kits
pub mod Stacks
pub mod Known
pub mod Tells
