-- The samples hold, and the claim's premises can be met.
pub mod Samples
pub mod Applied
