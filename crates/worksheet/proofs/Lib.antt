-- The lemmas of the proofs.
mod Parts
mod Sums
mod Ticked
mod Writing
