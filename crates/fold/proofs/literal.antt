-- Laws of literals.
pub mod Literals
pub mod Runs
