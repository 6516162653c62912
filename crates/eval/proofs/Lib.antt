-- The proofs of the evaluator: the laws of its parts, of a node with its children, and of the entry.
pub mod Walk
pub mod Entry
pub mod Samples
