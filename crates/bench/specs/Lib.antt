pub mod Stack
pub mod Faults
pub mod Files
