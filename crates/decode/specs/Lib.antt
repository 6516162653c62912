-- What the contracts of `decode` cite.
pub mod Decode
pub mod Patch
pub mod Aim
