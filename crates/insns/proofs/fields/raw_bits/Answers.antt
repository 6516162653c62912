-- `fields::raw_bits` meets its contract.
use mathlib.Core.Path.{◌≡◌, sym, ap, ◌∙◌}
use borrow.Author.Rules.{rules}
use mir.Syntax.{w64}
use mir.Val.{to_z, of_z}
use Rattle.insns.specs.Bits.{twos}
use Rattle.insns.specs.Fields.{raw_bits}
use Rattle.insns.proofs.fields.raw_bits.Goals as goal

pub returns-then-is_raw : goal.returns-then-is_raw
unfolding raw_bits
returns-then-is_raw c =
    let e : to_z w64 (of_z w64 c.args.imm.raw) ≡ c.args.imm.raw = search rules in
    let bits : c.signed_bits-n.result ≡ twos 549755813888 c.args.imm.raw = c.signed_bits-n.ensures ∙ ap (twos 549755813888) e in
    rw (← bits, sym c.is_raw.ensures ∙ c.if-is_raw.true)

pub returns-else-is_raw : goal.returns-else-is_raw
unfolding raw_bits
returns-else-is_raw c =
    let e : to_z w64 (of_z w64 c.args.imm.raw) ≡ c.args.imm.raw = search rules in
    let bits : c.signed_bits-n.result ≡ twos 549755813888 c.args.imm.raw = c.signed_bits-n.ensures ∙ ap (twos 549755813888) e in
    rw (← bits, sym c.is_raw.ensures ∙ c.if-is_raw.false)
