-- Words of private contracts and of proofs: heads line by line, bodies piece by piece, and the window behind both.
pub mod Bodies
pub mod Framing
pub mod Pieces
pub mod Windows
pub mod Routers
