pub mod Buffers
pub mod Refusals
