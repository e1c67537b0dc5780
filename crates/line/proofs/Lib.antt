pub mod Bytes
pub mod Rows
pub mod Joins
pub mod Readback
pub mod Gathering
