-- The lemmas, by topic.
pub mod Parity
pub mod Sums
pub mod Find
pub mod Drives
pub mod Cuts
pub mod Legs
pub mod Lengths
pub mod Reached
pub mod Faults
pub mod Models
pub mod Growth
pub mod Listed
pub mod First
pub mod FromFn
pub mod Ranges
pub mod Numbers
pub mod Limits
