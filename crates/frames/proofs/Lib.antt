pub mod Heads
pub mod Shifts
pub mod Walks
