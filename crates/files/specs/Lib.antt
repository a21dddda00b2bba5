-- The definitions that the contracts cite.
pub mod Answered
pub mod Arguments
pub mod Laws
pub mod Names
pub mod Sums
