pub mod Both
pub mod Heard
pub mod Isolation
