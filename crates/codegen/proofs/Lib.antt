-- The laws that the proofs of `codegen` cite.
pub mod Gens
pub mod Room
pub mod Parts
pub mod Walk
pub mod Values
pub mod Branches
