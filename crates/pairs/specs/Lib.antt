-- The definitions, by topic.
pub mod Walks
pub mod Incidences
pub mod Pairings
pub mod Laws
