-- `compile_with` gives what the definition gives with the lent jump list.
use Rattle.compile.proofs.Entries.{out-refused, out-passed}
use Rattle.compile.proofs.compile_with.Goals as goal
use Rattle.compile.proofs.compile_with.Goals.{in-Ok, in-Err}

pub returns-clause-compiles : goal.returns-clause-compiles
returns-clause-compiles c =
    elim c.match-check.branch [
      | in-Ok w ↦ rw (w.made-is, w.code-is, w.kinds-is, w.payloads-is) (out-passed c.args.nodes.now _ _ _ _ _ _ w.in-Ok.ensures w.generate-made.ensures)
      | in-Err w ↦ rw (w.made-is, w.code-is, w.kinds-is, w.payloads-is) (out-refused c.args.nodes.now _ _ _ _ _ _ w.in-Err.ensures w.refuse-made.ensures)
    ]
