-- The front end: what one packet does to a state, what it answers, and reset.
pub mod State
pub mod Commands
pub mod Mark
pub mod Step
pub mod Writes
pub mod Rows
pub mod Effects
pub mod Plain
pub mod Demands
pub mod Calls
pub mod Internal
