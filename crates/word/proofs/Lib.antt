pub mod Powers
pub mod Worked
pub mod Numbered
pub mod Places
pub mod Rows
pub mod Found
pub mod Held
pub mod Reading
