-- What the functions promise of the streets that they make.
pub mod Streets
