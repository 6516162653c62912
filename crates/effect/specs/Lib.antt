-- What the contracts of `effect` cite: Effect is the definition, Forms is plumbing.
pub mod Effect
pub mod Forms
