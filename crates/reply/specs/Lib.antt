-- Replies: what is written, and how one is read.
pub mod Answer
pub mod Plain
pub mod Reply
pub mod Reading
