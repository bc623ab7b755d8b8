-- Which rows of a map moved, and the mark that says so.
pub mod Bits
pub mod Rows
pub mod Right
pub mod Plain
