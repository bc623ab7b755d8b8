pub mod Laws
pub mod ReadsBack
pub mod Within
pub mod Plain
pub mod Determined
pub mod Promises
