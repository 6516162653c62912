-- `fold::compare_of` meets its contract: a literal on the right, on the left, or none.
use Rattle.std.specs.Prelude.{None}
use mathlib.Core.Path.{◌≡◌}
use borrow.Author.Rules.{rules}
use Rattle.fold.proofs.TestLaws.{compare-right, compare-left, compare-both}
use Rattle.fold.proofs.compare_of.Goals as goal

pub returns-in-Some : goal.returns-in-Some
returns-in-Some c =
    compare-right c.requires.comparison c.requires.k_value c.args.sense c.child_2-a.ensures c.child_1-b.ensures c.as_imm16.ensures c.in-Some.is c.cmp_branch.ensures

pub returns-in_err-m : goal.returns-in_err-m
returns-in_err-m c =
    let none : c.as_imm16.result ≡ None = search rules in
    rw c.from_residual.ensures
    (compare-both c.requires.comparison c.requires.k_value c.args.sense c.child_2-a.ensures c.child_1-b.ensures c.as_imm16.ensures c.as_imm16-2.ensures
    none c.in_err-m.was)

pub returns : goal.returns
returns c =
    let none : c.as_imm16.result ≡ None = search rules in
    compare-left c.requires.comparison c.requires.k_value c.args.sense c.child_2-a.ensures c.child_1-b.ensures c.as_imm16.ensures c.as_imm16-2.ensures
    none c.in_ok-m.was c.mirrored_branch.ensures
