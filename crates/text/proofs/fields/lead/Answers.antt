-- A search for the first byte that is blank, or is not, counts those before it.
use Rattle.std.proofs.Common.{◌≡◌, true, false, rules, sym, ◌∙◌}
use Rattle.std.specs.Bool.{beq}
use Rattle.std.proofs.lemmas.Iterator.{IsFirst-from_position, YieldsList-from_slice, index_from_first}
use Rattle.text.specs.Fields.{is_blank}
use Rattle.text.specs.Scan.{lead}
use Rattle.text.proofs.fields.Scanning.{lead-hit, lead-miss, lead-none}
use Rattle.text.proofs.fields.lead.Goals as goal

pub returns-clause-value : goal.returns-clause-value
returns-clause-value c =
    let first = IsFirst-from_position _ _ _ (λ b. beq (is_blank b) c.args.blank ≡ true) (λ b. beq (is_blank b) c.args.blank ≡ false) c.position.ensures.ran (YieldsList-from_slice c.args.s.now cc) (λ x q k. search rules) (λ x q k. search rules) in
    c.unwrap_or.ensures ∙ sym (index_from_first (lead c.args.blank) _ _ (lead-none c.args.blank) (lead-hit c.args.blank) (lead-miss c.args.blank) _ _ first)
