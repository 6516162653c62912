-- What the contracts of `reader` cite.
pub mod Line
