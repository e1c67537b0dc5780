pub mod Registers
pub mod Invariants
pub mod Names
pub mod Numbers
pub mod Meaning
pub mod Sounds
