pub mod Bits
pub mod Rows
pub mod Walk
pub mod Points
pub mod Right
pub mod Touched
pub mod Plain
