-- What the contracts of the C boundary cite: how numbers stand for enums, and what is left in the result cells.
pub mod Results
