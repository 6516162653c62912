-- The laws that the proofs of `complete` cite.
pub mod Laws
