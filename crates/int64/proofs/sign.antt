-- The laws of a number and its pattern.
pub mod Laws
pub mod Casts
