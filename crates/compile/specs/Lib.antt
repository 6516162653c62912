-- What the contracts of `compile` cite: the definition (Compile, Buffers), and the plumbing of its routines (Parts).
pub mod Compile
pub mod Buffers
pub mod Parts
