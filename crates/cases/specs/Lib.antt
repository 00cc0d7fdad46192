pub mod Faults
pub mod Fnv
pub mod Lists
