-- The laws of sums, differences and products.
pub mod Laws
