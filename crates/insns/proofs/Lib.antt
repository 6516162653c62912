-- Laws of the instruction words.
pub mod Packing
pub mod Table
pub mod Arms
