pub mod Lines
pub mod Turns
pub mod Closing
pub mod Files
pub mod Example
pub mod Plain
pub mod Determined
