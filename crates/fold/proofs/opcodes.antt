-- Laws of the operators by their kinds.
pub mod KindLaws
