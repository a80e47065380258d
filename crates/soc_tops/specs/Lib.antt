pub mod Asked
pub mod Tops
pub mod Json
