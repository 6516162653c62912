-- From the kit's account of IEEE 754 (`lib.Ieee`) to what `specs/Binary64` reads.
pub mod Read
pub mod Scale
