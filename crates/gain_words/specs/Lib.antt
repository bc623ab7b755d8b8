-- Gains as words, one by one or as pairs of a run and a gain.
pub mod Gains
pub mod Pairs
pub mod Plain
