pub mod Meanings
pub mod Samples
pub mod Spans
