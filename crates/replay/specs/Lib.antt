-- What the program carries from window to window.
pub mod Plain
pub mod Played
