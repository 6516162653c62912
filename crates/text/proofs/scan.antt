-- The laws that the proof of `scan` cites.
pub mod Finding
