-- What the contracts of `eval` cite.
pub mod Eval
pub mod Evaluate
pub mod Next
pub mod Apply
pub mod Steps
