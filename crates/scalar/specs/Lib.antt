pub mod Casts
pub mod Arithmetic
