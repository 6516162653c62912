-- The laws of order.
pub mod Laws
