-- The definitions, by topic.
pub mod Sheet
pub mod Shown
pub mod Numbers
pub mod Words
pub mod Model
pub mod Laws
pub mod Worked
