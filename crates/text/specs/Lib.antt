-- Text as bytes in ASCII: decimal numbers, bytes in hex, and the putting of text into a buffer.
pub mod Text
pub mod Plain
pub mod Page
