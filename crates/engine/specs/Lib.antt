pub mod Arithmetic
pub mod Entering
pub mod Fetching
pub mod Lengths
