-- The limits of document 01, in one place; nodes and depth as document 02, W7, has them.
use Rattle.std.specs.Prelude.{ℕ}

abbrev pub max_nodes : ℕ
max_nodes = 65536

abbrev pub max_depth : ℕ
max_depth = 200

abbrev pub max_registers : ℕ
max_registers = 65535
