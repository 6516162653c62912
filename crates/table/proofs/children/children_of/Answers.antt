-- `children::children_of` meets its contract. The invariant: what is left to cover gives the answer.
use Rattle.std.proofs.Common.{rules, arith, ◌≡◌, ◌∙◌, ◌-◌, ◌+◌, ◌≤◌, max}
use Rattle.table.proofs.Nodes.{left-missing, left-none, left-again, left-within}
use Rattle.table.proofs.children.children_of.Goals as goal

pub returns-in_err-last : goal.returns-in_err-last
returns-in_err-last c =
    let gone : 1 ≤ c.loop.e → ⊥ = c.in_err-last.ensures in
    c.from_residual.ensures ∙ left-missing _ _ _ _ _ c.loop.invariant.0 (omega arith) (omega arith)

pub loop-preserved : goal.loop-preserved
loop-preserved c =
    let one : c.args.n - c.loop.counter - 1 ≡ c.args.n - (c.loop.counter + 1) = omega arith in
    let last = c.in_ok-last.ensures in
    let before : c.in_ok-last.last ≡ c.loop.e - 1 = omega arith in
    let deep : c.max-d.result ≡ max c.loop.d c.depth_at.result = search rules in
    let some : c.loop.e ≡ 0 → ⊥ = λ z. omega arith in
    let q = left-again _ _ _ _ _ c.loop.invariant.0 (omega arith) some (rw before at c.first_at-e.ensures) deep (rw before at c.depth_at.ensures) in
    (rw one at q, left-within c.loop.e c.requires c.loop.invariant.1 some (rw before at c.first_at-e.ensures))

pub returns : goal.returns
returns c = left-none _ _ _ _ _ c.loop.invariant.0 (omega arith)
