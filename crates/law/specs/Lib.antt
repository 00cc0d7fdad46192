pub mod Asked
pub mod Mixing
pub mod Numbers
pub mod Playing
pub mod Text
pub mod Told
