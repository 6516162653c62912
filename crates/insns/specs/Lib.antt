-- What the contracts of `insns` cite.
pub mod Bits
pub mod Fields
pub mod Opcodes
pub mod Insns
