-- The front end on a block and tables, however the tables are lent.
pub mod Lent
pub mod Held
