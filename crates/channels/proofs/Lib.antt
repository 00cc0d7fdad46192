pub mod Frames
pub mod Places
pub mod Turns
pub mod Uses
