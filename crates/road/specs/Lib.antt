-- The definitions, by topic.
pub mod Roads
pub mod Counts
pub mod Limits
pub mod Reach
pub mod Numbers
pub mod First
pub mod Refusals
pub mod Model
pub mod Faults
pub mod Growth
pub mod Laws
