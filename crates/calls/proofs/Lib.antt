pub mod Ending
pub mod TagsRight
pub mod Feeding
pub mod Tracing
