-- The block of settings: where each stands, what it may be, the test of that, and reset.
pub mod Layout
pub mod Allowed
pub mod Ranges
pub mod Reset
pub mod Internal
pub mod AfterReset
