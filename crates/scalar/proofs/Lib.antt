pub mod Residues
pub mod Casts
pub mod Machine
