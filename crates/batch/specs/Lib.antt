-- Packets, written one behind the other into a batch.
pub mod Pairs
pub mod Plain
pub mod Writing
pub mod Internal
pub mod Sending
