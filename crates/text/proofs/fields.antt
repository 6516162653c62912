-- The laws that the proofs of `fields` cite.
pub mod Scanning
