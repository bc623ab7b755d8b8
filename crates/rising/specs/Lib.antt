-- The rising test of 35h, called alone.
pub mod Plain
pub mod Alone
