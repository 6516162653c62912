-- How an Int stands to a Float: the rule for an Int beyond 2^53 (`Wide`), and what the code finds (`Laws`).
pub mod Wide
pub mod Laws
