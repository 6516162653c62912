-- `regs::end_of` meets its contract: by the test.
use Rattle.faults.proofs.Faults.{tests}
use Rattle.regs.proofs.end_of.Goals as goal

pub returns-then-end-gt-MAX_REGISTERS : goal.returns-then-end-gt-MAX_REGISTERS
returns-then-end-gt-MAX_REGISTERS c = search tests

pub returns : goal.returns
returns c = search tests
