-- `Regs::new` meets its contract: the greater of two is where temporaries start.
use mathlib.Core.Path.{refl}
use Rattle.table.specs.Table.{temp_base_of}
use Rattle.regs.specs.Counter.{fresh}
use Rattle.regs.proofs.Regs.new.Goals as goal

pub returns : goal.returns
unfolding fresh temp_base_of
returns c = rw c.max-temp_base.ensures refl
