-- The definitions that the contracts cite.
pub mod Laws
pub mod Model
pub mod Worksheet
