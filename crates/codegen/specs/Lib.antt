-- What the contracts of `codegen` cite.
pub mod Gen
pub mod Rules
