-- The laws of faults, which the proofs above cite.
pub mod Faults
