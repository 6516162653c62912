-- The laws that the proofs of the generator's leaves cite.
pub mod Laws
pub mod ConstLaws
pub mod LeafLaws
