-- Laws of patching.
pub mod Aim
pub mod Facts
pub mod Field
