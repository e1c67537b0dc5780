pub mod Counting
pub mod Words
