-- Laws that belong to no one function.
pub mod Closed
pub mod Plain
pub mod Comparing
pub mod Samples
