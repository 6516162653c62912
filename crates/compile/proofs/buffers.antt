-- Laws of what is left behind.
pub mod Ends
