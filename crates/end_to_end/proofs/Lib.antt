-- The judge and the front end: one write, and the plan's packets sent; the splitter's packets sent.
-- Then the same on lent bytes.
pub mod Sent
pub mod Blends
pub mod Pairs
pub mod Chains
pub mod Uploads
