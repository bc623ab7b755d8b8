-- Laws of the compressor: the pairs of gains are the fewest; what its loops keep; what it
-- promises; and that this leaves it one outcome.
pub mod Fewest
pub mod Writing
pub mod Outcome
pub mod Plain
pub mod Determined
