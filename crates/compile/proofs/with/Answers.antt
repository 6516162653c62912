-- `with`: its list does not run out.
use lib.ListN.{length-replicate}
use Rattle.std.proofs.lemmas.Result.{err_from_is_err_and}
use Rattle.compile.proofs.Entries.{enough-places}
use Rattle.compile.proofs.with.Goals as goal

pub returns-in_err-made : goal.returns-in_err-made
returns-in_err-made g c =
    let p = err_from_is_err_and c.from_residual.result c.from_residual.ensures.1 in
    rw (p.1, p.2) (enough-places c.args.nodes.now _ _ _ _ _ g.row.PLACES c.requires.dest_value c.requires.nodes_bound
    (rw (length-replicate, c.in_err-made.was) at c.generate.ensures))

pub returns : goal.returns
returns g c =
    enough-places c.args.nodes.now _ _ _ _ _ g.row.PLACES c.requires.dest_value c.requires.nodes_bound (rw (length-replicate, c.in_ok-made.was) at c.generate.ensures)
