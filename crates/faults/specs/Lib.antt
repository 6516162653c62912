-- What the contracts of every crate cite: the numbers and limits of document 01, and the first fault of several.
pub mod Numbers
pub mod Limits
pub mod Faults
