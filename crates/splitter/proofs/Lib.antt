pub mod Cutting
pub mod Determined
pub mod Faults
pub mod Outcome
pub mod Plain
pub mod Writing
