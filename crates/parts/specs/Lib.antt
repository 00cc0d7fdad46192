pub mod Cut
pub mod Sums
