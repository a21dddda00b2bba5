-- The definitions, by topic.
pub mod Least
pub mod Shown
pub mod Relaxed
pub mod Laws
