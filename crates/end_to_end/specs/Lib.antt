-- Uploads at the front end: what a planned upload leaves there, and what compressed gains leave; on
-- numbers and on lent bytes.
pub mod Delivery
pub mod Gains
pub mod Chains
pub mod OnBytes
pub mod EndToEnd
