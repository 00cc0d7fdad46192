pub mod Following
pub mod Places
pub mod Turns
