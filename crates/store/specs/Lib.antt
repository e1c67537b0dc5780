pub mod Refusals
pub mod Meaning
pub mod Rules
pub mod Kinds
pub mod Sounds
