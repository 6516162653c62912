-- Signed numbers and their bits.
pub mod Sign
