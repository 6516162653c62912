-- What the contracts of the register counter cite.
pub mod Counter
