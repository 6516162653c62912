-- The laws of `machine`: those that its proofs cite, and those of its definitions that `run` and `claim` cite.
pub mod Outcomes
pub mod StepLaws
pub mod RunLaws
pub mod RunFacts
pub mod Written
pub mod Lends
pub mod Lent
