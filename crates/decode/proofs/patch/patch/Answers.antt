-- `patch::patch` meets its contract: no word, or one that is aimed.
use Rattle.decode.proofs.patch.Aim.{no_word, a_word, both}
use Rattle.std.proofs.lemmas.Result.{err_from_is_err_and}
use Rattle.decode.proofs.patch.patch.Goals as goal

pub returns-then-words-at : goal.returns-then-words-at
returns-then-words-at c = both (no_word c.args.words.now c.args.at c.args.target c.if-words-at.true)

pub returns-in_err-words : goal.returns-in_err-words
returns-in_err-words c =
    let p = err_from_is_err_and c.from_residual.result c.from_residual.ensures.1 in
    rw (p.1, p.2) (both (a_word c.args.words.now c.args.at c.args.target c.if-words-at.false c.aim_word.ensures c.in_err-words.was))

pub returns : goal.returns
returns c = both (a_word c.args.words.now c.args.at c.args.target c.if-words-at.false c.aim_word.ensures c.in_ok-words.was)
