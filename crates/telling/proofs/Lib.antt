pub mod Parts
pub mod Reporting
