-- The laws that the proofs of `numeral` cite.
pub mod Reading
