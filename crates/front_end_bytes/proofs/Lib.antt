-- Laws of the front end on tables lent as bytes: parts of a table moved as bytes, the step on numbers as the step on bytes, and
-- that it answers as the entries on numbers do.
pub mod Ways
pub mod Promises
pub mod Determined
