-- What every layer shares: numbers in bytes, tables of numbers in bytes, the checksum, and the first test of a list that holds.
pub mod Numbers
pub mod Tables
pub mod Checksum
pub mod First
pub mod Buffers
pub mod Plain
pub mod Refusals
pub mod Elements
pub mod ElementsHeld
