-- The proofs of the table: the returns of the check's parts, what follows where it finds no fault, of a node, of kinds, of trees and of the whole, and samples.
pub mod Parts
pub mod Nodes
pub mod Arities
pub mod Rights
pub mod Trees
pub mod Held
pub mod Whole
pub mod Samples
