-- The lemmas, by topic.
pub mod Least
pub mod Relaxed
pub mod Shown
