pub mod Loops
pub mod Bytes
pub mod Parts
pub mod Behind
