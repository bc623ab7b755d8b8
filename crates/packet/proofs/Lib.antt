-- Laws of packets: the stores that make one, what making answers, and the frame that is read; and the theorems: reading takes
-- exactly what the rules allow, what is made reads back, and what is read is made again.
pub mod Stores
pub mod Makes
pub mod Frames
pub mod Within
pub mod Exactly
pub mod MadeReads
pub mod MadeAgain
pub mod Plain
pub mod Promises
pub mod Determined
