-- Planning, whatever the lists are made of.
pub mod Internal
pub mod Rooms
pub mod Refusals
pub mod Lengths
pub mod Made
pub mod Plain
