-- What the contracts of `fold` cite.
pub mod Fold
pub mod Nodes
pub mod Literal
pub mod Opcodes
