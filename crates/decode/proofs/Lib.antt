-- Laws of decoding.
pub mod Sign
pub mod Table
pub mod RoundTrip
pub mod Facts
