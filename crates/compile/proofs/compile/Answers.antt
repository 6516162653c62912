-- `compile` gives what the definition gives, of every input: the jump list that it brings does not run out (`listed`).
use Rattle.compile.proofs.Entries.{out-refused, out-passed}
use Rattle.compile.proofs.compile.Goals as goal

pub returns-in-Ok : goal.returns-in-Ok
returns-in-Ok c = out-passed c.args.nodes.now _ _ _ _ _ _ c.in-Ok.ensures c.listed.ensures

pub returns-in-Err : goal.returns-in-Err
returns-in-Err c = out-refused c.args.nodes.now _ _ _ _ _ _ c.in-Err.ensures c.refuse.ensures
