-- Lemmas that the answers cite.
pub mod Splits
pub mod Lookups
pub mod Characters
pub mod Served
pub mod Sorting
