-- Each digit is tested.
use Rattle.std.proofs.Common.{◌∙◌, eqb, rules, tests}
use Rattle.std.proofs.lemmas.Iterator.{YieldsList-from_slice}
use Rattle.std.proofs.lemmas.Iterator.Search.{all_from_yields_List}
use Rattle.text.proofs.decimal.Digits.{zero-is}
use Rattle.text.proofs.decimal.is_zero.Goals as goal

pub returns : goal.returns
returns c = all_from_yields_List (λ d. eqb d 48) _ _ _ c.all.ensures.ran (YieldsList-from_slice c.args.f.now cc) (λ x b q k. search (rules, tests)) ∙ zero-is c.args.f.now c.requires
