-- The laws and steps that more than one proof of this crate cites, and samples.
pub mod Laws
pub mod Fills
pub mod Samples
