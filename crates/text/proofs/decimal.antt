-- The laws that the proofs of `decimal` cite.
pub mod Digits
pub mod Settling
pub mod Texts
