pub mod Answers
pub mod Mixed
pub mod Written
