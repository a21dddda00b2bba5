-- The lemmas.
mod Drives
mod Streets
