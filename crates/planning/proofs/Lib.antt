pub mod Entries
pub mod Fit
pub mod Places
pub mod Plain
