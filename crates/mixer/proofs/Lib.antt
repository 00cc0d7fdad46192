mod Adds
mod Answering
mod Asks
pub mod Performs
mod Stepping
mod Turning
