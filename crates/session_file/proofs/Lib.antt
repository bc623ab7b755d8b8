pub mod Runs
pub mod Kept
pub mod Steps
pub mod File
