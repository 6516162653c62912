-- What the contracts of `operands` cite.
pub mod OfOp
pub mod Encode
pub mod Shapes
