-- The laws that the proofs of `encode` cite, and the round trip.
pub mod Laws
pub mod RoundTrip
