-- The laws that the proofs of `reader` cite.
pub mod Lines
