-- The front end on tables lent as bytes.
pub mod Bytes
pub mod Plain
pub mod Promises
