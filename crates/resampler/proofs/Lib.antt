pub mod Draws
pub mod Gives
