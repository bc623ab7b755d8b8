-- The commands carried: their fields and ranges, what is refused of their data, what is allowed, and where the first fault stands.
pub mod Fields
pub mod Options
pub mod Commands
pub mod Judgement
pub mod Allowed
pub mod Faults
pub mod Numbers
pub mod Internal
pub mod Plain
