pub mod Refusals
pub mod Trails
