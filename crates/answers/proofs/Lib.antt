-- The lemmas of the proofs.
mod Planned
mod Checked
mod Short
