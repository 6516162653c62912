-- Laws that belong to no one function.
pub mod RoundTrip
pub mod PairLaws
