-- The definitions, by topic.
pub mod Promise
pub mod Rooms
pub mod Plans
pub mod Tours
pub mod Laws
