pub mod Law
pub mod Onward
pub mod Rates
pub mod Walks
