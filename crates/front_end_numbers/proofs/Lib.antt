-- The entries on 16-bit tables, from those on tables of any elements.
pub mod Same
