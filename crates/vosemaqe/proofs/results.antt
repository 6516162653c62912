-- What the proofs of the C boundary share.
pub mod Laws
