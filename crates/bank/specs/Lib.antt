pub mod Banks
pub mod Joins
