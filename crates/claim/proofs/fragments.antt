-- Demand 3, from the ground up: fragments, runs, the laws of values, the induction over trees; the generator's words.
pub mod Shared
pub mod Frag
pub mod Runs
pub mod Sound
pub mod Laws
pub mod Trees
pub mod Needs
pub mod Fits
pub mod Whole
pub mod Open
pub mod Steps
pub mod Folds
pub mod Bridge
