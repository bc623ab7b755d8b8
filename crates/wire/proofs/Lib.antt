pub mod Sums
pub mod Copies
pub mod Laws
pub mod Tables
pub mod Tests
pub mod Plain
