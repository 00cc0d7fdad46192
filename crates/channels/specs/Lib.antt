pub mod Channels
pub mod Converters
pub mod Steps
