-- The laws that the proofs of `of_op` cite.
pub mod Laws
