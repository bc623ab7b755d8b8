pub mod Walk
pub mod Places
pub mod Right
pub mod Expand
pub mod Plain
