-- The laws that the proofs of `compile` cite.
pub mod Roots
pub mod Entries
pub mod Once
