pub mod Pieces
pub mod Streams
pub mod Takes
pub mod Uniform
