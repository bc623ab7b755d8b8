-- What is written in a table, and what stays.
pub mod Behind
