-- How the C entries pack an answer into one number.
pub mod Plain
pub mod Packed
