-- From the kit's comparisons (`lib.Ieee`) to `specs/FloatOrder`.
pub mod Orders
