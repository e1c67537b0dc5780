pub mod Standing
pub mod Data
pub mod Backing
pub mod Instructions
pub mod Machine
