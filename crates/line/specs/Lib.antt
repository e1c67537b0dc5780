pub mod Elements
pub mod Places
pub mod Vectors
pub mod Dividing
pub mod Reductions
