-- `Constant::is` compares both.
use mathlib.Core.Path.{◌≡◌, ap, ◌∙◌}
use mathlib.Core.Bool.{◌&&◌}
use lib.Dec.{eqb}
use borrow.Author.Tests.{eq-eqb, ne_eqb}
use Rattle.emit.specs.State.{alike}
use Rattle.emit.specs.Read.{const_of}
use Rattle.emit.proofs.ConstLaws.{bits-same}
use Rattle.emit.proofs.consts.Constant.is.Goals as goal

pub returns-then-kind-self : goal.returns-then-kind-self
returns-then-kind-self c =
    let e : (eqb c.args.kind c.self.inside.kind && eqb c.args.payload c.self.inside.payload) ≡ alike (const_of c.args.kind c.args.payload) c.args.self.now =
    bits-same c.requires.as_kind c.requires.as_payload c.self.invariant ∙ ap (alike (const_of c.args.kind c.args.payload)) c.self.view_is in
    rw (eq-eqb c.args.kind c.self.inside.kind c.if-kind-self.true) at e

pub returns-else-kind-self : goal.returns-else-kind-self
returns-else-kind-self c =
    let e : (eqb c.args.kind c.self.inside.kind && eqb c.args.payload c.self.inside.payload) ≡ alike (const_of c.args.kind c.args.payload) c.args.self.now =
    bits-same c.requires.as_kind c.requires.as_payload c.self.invariant ∙ ap (alike (const_of c.args.kind c.args.payload)) c.self.view_is in
    let n = ne_eqb c.args.kind c.self.inside.kind c.if-kind-self.false in
    rw n (rw n at e)
