-- The definitions that the contracts cite.
pub mod Entries
pub mod Format
pub mod Gathered
pub mod Laws
pub mod Lines
pub mod Plans
pub mod Said
pub mod Texts
pub mod Told
pub mod Towns
pub mod Words
