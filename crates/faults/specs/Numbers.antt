-- The faults that a caller can get back, as document 01 lists them, and their numbers; 0 is none.
use Rattle.std.specs.Prelude.{ℕ, Result, Ok, Err}
use Rattle.faults.specs.declared.Fault.{Fault}
use Rattle.faults.specs.declared.Fault.TheVariants as F

-- the table is empty, not a multiple of 4 words, or over max_nodes nodes
abbrev pub bad_shape : Fault
bad_shape = F.BadShape

-- unknown kind, non-zero payload, a Float that is not finite, missing child, wrong first or depth, or the last node's first is not 0
abbrev pub bad_node : Fault
bad_node = F.BadNode

-- depth over max_depth
abbrev pub too_deep : Fault
too_deep = F.TooDeep

-- a Ref or the destination is not below the base
abbrev pub not_local : Fault
not_local = F.NotLocal

-- parameters plus locals, or an allocation, pass max_registers
abbrev pub no_register : Fault
no_register = F.NoRegister

-- no constant slot is left
abbrev pub no_slot : Fault
no_slot = F.NoSlot

-- no room for a word, or for a jump in a caller's jump list
abbrev pub no_room : Fault
no_room = F.NoRoom

-- a displacement is outside its field when patching
abbrev pub too_far : Fault
too_far = F.TooFar

-- an operand does not fit its field
abbrev pub no_fit : Fault
no_fit = F.NoFit

-- a word that does not decode
abbrev pub undecoded : Fault
undecoded = F.Undecoded

-- patching: the word is not a branch
abbrev pub not_branch : Fault
not_branch = F.NotBranch

-- patching: no word at the branch position
abbrev pub no_word : Fault
no_word = F.NoWord

-- wrong kind of value
abbrev pub wrong_kind : Fault
wrong_kind = F.WrongKind

-- integer result outside 64 bits signed
abbrev pub overflow : Fault
overflow = F.Overflow

-- Mod by zero
abbrev pub mod_by_zero : Fault
mod_by_zero = F.ModByZero

-- an Int outside -2^53..2^53 meets a Float in Add, Sub or Mul, or stands in Div
abbrev pub not_exact : Fault
not_exact = F.NotExact

-- shift amount outside 0..63
abbrev pub bad_shift : Fault
bad_shift = F.BadShift

-- the budget is spent
abbrev pub budget_spent : Fault
budget_spent = F.BudgetSpent

-- a register, slot or taken target is out of range
abbrev pub out_of_range : Fault
out_of_range = F.OutOfRange

-- a panic word
abbrev pub panic_word : Fault
panic_word = F.PanicWord

-- an opcode that is not run here
abbrev pub not_run : Fault
not_run = F.NotRun

-- an ill-formed value was lent
abbrev pub ill_formed : Fault
ill_formed = F.IllFormed

-- ---- their numbers

abbrev pub number : Fault → ℕ
number F.BadShape = 1
number F.BadNode = 2
number F.TooDeep = 3
number F.NotLocal = 4
number F.NoRegister = 5
number F.NoSlot = 6
number F.NoRoom = 7
number F.TooFar = 8
number F.NoFit = 9
number F.Undecoded = 10
number F.NotBranch = 11
number F.NoWord = 12
number F.WrongKind = 20
number F.Overflow = 21
number F.ModByZero = 22
number F.NotExact = 23
number F.BadShift = 24
number F.BudgetSpent = 25
number F.OutOfRange = 26
number F.PanicWord = 27
number F.NotRun = 28
number F.IllFormed = 29

-- of an answer: 0 where it has no fault
abbrev pub number_of : Result (Unit {0}) Fault → ℕ
number_of (Ok done) = 0
number_of (Err f) = number f
