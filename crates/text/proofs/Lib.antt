-- The lemmas of the proofs.
pub mod Back
mod Behind
mod Digits
mod Marked
mod Spelled
mod Standing
mod Told
pub mod TownBack
mod WrittenLines
mod Cutting
mod Each
mod Gathering
mod Parts
mod Telling
mod Words
mod ShortTowns
mod Writing
