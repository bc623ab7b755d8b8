pub mod Turns
pub mod FromReset
