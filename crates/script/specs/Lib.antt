pub mod Kinds
pub mod Plain
pub mod Texts
