-- The laws of `effect`: those that its proofs cite.
pub mod EffectLaws
