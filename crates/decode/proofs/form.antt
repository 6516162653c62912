-- A law of the arms of a `match`.
pub mod Arms
