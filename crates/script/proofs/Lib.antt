pub mod Cutting
pub mod Numbered
pub mod Reading
