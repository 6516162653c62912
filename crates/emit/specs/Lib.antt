-- What the contracts of `emit` cite: the definition (State, Steps, Jump), and the plumbing between it and the code (Read, Lists).
pub mod State
pub mod Steps
pub mod Jump
pub mod Read
pub mod Lists
