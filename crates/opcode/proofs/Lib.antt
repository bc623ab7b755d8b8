pub mod Table
pub mod Rows
pub mod Laws
pub mod Accepts
pub mod Below
pub mod Faults
pub mod Numbers
pub mod Plain
