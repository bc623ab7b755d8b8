-- Packets: how one is read, how one is made, and what one writes into a map.
pub mod Frame
pub mod Reading
pub mod Making
pub mod Points
pub mod Sound
pub mod Promises
pub mod Internal
pub mod Plain
