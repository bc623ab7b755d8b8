pub mod Number
pub mod Bytes
pub mod Forms
pub mod Determined
