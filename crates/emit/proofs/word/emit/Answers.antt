-- `word::emit` meets its contract: refused, no room, or stored.
use Rattle.std.specs.Prelude.{Some, None}
use mathlib.Core.Path.{◌≡◌}
use native.Mathlib.Omega.{arith}
use Rattle.emit.specs.State.{store_d}
use borrow.Author.Rules.{rules}
use Rattle.emit.proofs.Laws.{leaves}
use Rattle.emit.proofs.word.emit.Goals as goal

pub returns-in_err-w : goal.returns-in_err-w
unfolding store_d
returns-in_err-w c =
    let e : c.args.made ≡ None = grind arith in
    search (rules, e)

pub returns-then-code-n : goal.returns-then-code-n
returns-then-code-n c = search (leaves, rules)

pub returns : goal.returns
returns c =
    let e : c.args.made ≡ Some c.in_ok-w.w = grind arith in
    search (leaves, rules, e)
