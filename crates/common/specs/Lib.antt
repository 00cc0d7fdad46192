pub mod Formats
pub mod Limits
pub mod Refusals
