-- Demand 3: what compiling a table gives, the pairs and constants of a run, the theorem; and what is refused, where the value stands, which opcodes are
-- emitted, that no two slots are equal.
pub mod Literals
pub mod Known
pub mod Pairs
pub mod Consts
pub mod Theorem
pub mod Refusals
pub mod Emitted
pub mod Distinct
pub mod Placed
pub mod Places
pub mod Registers
pub mod Entry
pub mod fragments
