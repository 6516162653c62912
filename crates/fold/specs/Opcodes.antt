-- The instruction of an operator: that of two registers, or the branch of a comparison (01, "Emission rules").
use Rattle.std.specs.Prelude.{Bool, true, false}
use Rattle.table.specs.Tree.{Arith, bit_and, bit_or, bit_xor, lshift, rshift, add, sub, mul, div, mod', Cmp, eq, ne, lt, le, gt, ge}
use Rattle.insns.specs.declared.op.Three.{Three}
use Rattle.insns.specs.declared.op.Cmp.{Cmp as JumpCmp}
use Rattle.insns.specs.declared.op.Cmp.TheVariants as Jump

-- the instruction with two registers
abbrev pub three_of : Arith → Three
three_of bit_and = Three.BitAnd
three_of bit_or = Three.BitOr
three_of bit_xor = Three.BitXor
three_of lshift = Three.Lshift
three_of rshift = Three.Rshift
three_of add = Three.Add
three_of sub = Three.Sub
three_of mul = Three.Mul
three_of div = Three.Div
three_of mod' = Three.Modulo

-- ---- comparisons

-- the comparison that holds with the operands exchanged (`mirror_cmp`): of a NaN too, where neither does
abbrev pub mirror : Cmp → Cmp
mirror eq = eq
mirror ne = ne
mirror lt = gt
mirror le = ge
mirror gt = lt
mirror ge = le

-- the branch that is taken where the comparison is `sense` (`cmp_branch_insn`). A failed a < b is no a >= b: with a NaN both fail
abbrev pub branch_of : Cmp → Bool → JumpCmp
branch_of eq true = Jump.Eq
branch_of ne true = Jump.Ne
branch_of lt true = Jump.Lt
branch_of le true = Jump.Le
branch_of gt true = Jump.Gt
branch_of ge true = Jump.Ge
branch_of eq false = Jump.Ne
branch_of ne false = Jump.Eq
branch_of lt false = Jump.Nlt
branch_of le false = Jump.Nle
branch_of gt false = Jump.Ngt
branch_of ge false = Jump.Nge
