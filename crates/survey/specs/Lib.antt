pub mod Blank
pub mod Runs
pub mod Counts
pub mod Outcomes
