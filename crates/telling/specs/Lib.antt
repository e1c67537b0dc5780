pub mod Entries
pub mod Reports
pub mod Rows
pub mod Texts
