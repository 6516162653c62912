-- What the contracts of `records` cite.
pub mod Records
