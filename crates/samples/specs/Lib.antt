-- The samples of document 01 as lists.
pub mod Samples
