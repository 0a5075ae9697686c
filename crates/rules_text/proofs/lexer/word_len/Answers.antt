use Rattle.std.proofs.Common.{◌≡◌, length, sym, ◌∙◌, arith}
use Rattle.rules_text.proofs.TokenSteps.{letters_end, letters_more, letters_stop}
use Rattle.rules_text.proofs.lexer.word_len.Goals as goal

pub returns-then-not-word_octet-clause-letters : goal.returns-then-not-word_octet-clause-letters
returns-then-not-word_octet-clause-letters c = letters_stop c.args.text.now c.loop-at.at (omega arith) (sym c.word_octet.ensures ∙ c.if-not-word_octet.true) c.loop-at.invariant

pub loop-at-preserved : goal.loop-at-preserved
loop-at-preserved c = letters_more c.args.text.now c.loop-at.at (omega arith) (sym c.word_octet.ensures ∙ c.if-not-word_octet.false) c.loop-at.invariant

pub returns-clause-letters : goal.returns-clause-letters
returns-clause-letters c =
    let whole : c.loop-at.at ≡ length c.args.text.now = omega arith in
    sym whole ∙ letters_end c.args.text.now c.loop-at.at (omega arith) c.loop-at.invariant
