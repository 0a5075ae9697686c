use Rattle.std.proofs.Common.{◌≡◌, ◌<◌, Some, w16, sym, ap, ◌∙◌, arith}
use Rattle.std.proofs.lemmas.Option.{same_Some}
use Rattle.std.proofs.lemmas.Nat.Bits.{bit_at_set_same, bit_at_set_other}
use Rattle.bpf_verify.proofs.scratch.with_stored.Goals as goal
use Rattle.bpf_verify.proofs.scratch.with_stored.Goals.{In-Some}

-- The word that the instruction stores is one of the sixteen.
word_within : (c : In-Some) → c.in-Some.word < 16
word_within c = c.requires c.in-Some.word ((c.word_stored.ensures c.in-Some.word).1 c.in-Some.is)

pub overflow_cast-result : goal.overflow_cast-result
overflow_cast-result c = omega (arith, word_within c)

pub overflow_shl-result : goal.overflow_shl-result
overflow_shl-result c = word_within c

pub returns-in-Some-clause-stored : goal.returns-in-Some-clause-stored
returns-in-Some-clause-stored c word stores =
    let same : word ≡ c.in-Some.word = same_Some word c.in-Some.word (sym ((c.word_stored.ensures word).0 stores) ∙ c.in-Some.is) in
    rw same (bit_at_set_same w16 c.args.mask c.in-Some.word (word_within c))

pub returns-in-Some-clause-others : goal.returns-in-Some-clause-others
returns-in-Some-clause-others c word unstored =
    bit_at_set_other w16 c.args.mask c.in-Some.word (word_within c) word (λ e. unstored ((c.word_stored.ensures word).1 (c.in-Some.is ∙ ap Some (sym e))))
