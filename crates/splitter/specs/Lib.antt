-- Pairs of a run and a gain cut into 2Bh packets.
pub mod Plain
pub mod Split
pub mod Splitting
pub mod Internal
pub mod Refusals
