-- A session file: its preamble, its records, and how it is read in windows.
pub mod Session
pub mod Windows
pub mod Plain
