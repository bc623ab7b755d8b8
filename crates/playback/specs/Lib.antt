-- A replay of a session file: the text that it prints, and how it is made window by window.
pub mod Device
pub mod Replay
pub mod Windows
pub mod WholeFiles
pub mod Plain
