pub mod Plain
pub mod Writing
