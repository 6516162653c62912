-- The laws that the proofs of `replay_io` cite.
pub mod Made
