-- What the contracts of `text` cite.
pub mod Bytes
pub mod Fields
pub mod Scan
pub mod Numeral
pub mod Refusals
pub mod Decimal
pub mod Doubling
