pub mod Refusals
pub mod Causes
pub mod Format
pub mod Placing
pub mod Records
pub mod Loading
