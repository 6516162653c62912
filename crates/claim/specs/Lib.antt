-- What is claimed of compiled tables and their runs: demand 3, what a compile is refused for, which opcodes it emits, what its slots hold; and what
-- `agree` cites.
pub mod Claim
pub mod Refusals
pub mod Emitted
pub mod Shared
pub mod Registers
pub mod Entry
