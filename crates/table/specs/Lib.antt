-- What the contracts of `table` cite.
pub mod Table
pub mod Tree
pub mod Accepted
pub mod Complete
pub mod Nodes
