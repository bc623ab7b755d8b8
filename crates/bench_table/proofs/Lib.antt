-- The one statement about the table of bench packets.
pub mod Holds
