-- The lemmas, by topic.
pub mod Loops
pub mod Euler
pub mod Planned
pub mod Rounds
pub mod Rooming
pub mod Planning
pub mod Checking
pub mod Tours
pub mod Driven
pub mod Answering
