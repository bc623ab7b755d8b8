-- Laws of the front end on tables: what goes out of them, and their lengths.
pub mod Returned
pub mod Lengths
