pub mod Trails
pub mod Loops
pub mod Files
pub mod Made
pub mod Law
