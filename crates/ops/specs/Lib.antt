-- What the contracts of `ops` cite.
pub mod Ops
pub mod Arith
pub mod Compare
pub mod Not
pub mod Code
