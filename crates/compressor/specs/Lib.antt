-- Gains turned into the fewest pairs of a run and a gain.
pub mod Plain
pub mod Compress
pub mod Compressing
pub mod Internal
pub mod Refusals
