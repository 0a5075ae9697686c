-- Each word is shown, in order, up to the last.
use Rattle.std.proofs.Common.{◌∙◌, ◌+◌, ◌∷◌, [], map, option_map, sym, ap, subst}
use Rattle.std.specs.String.{string_bytes}
use Rattle.std.proofs.lemmas.List.{map-append}
use Rattle.text_command_line.proofs.WordLemmas.{ReadsOn, begins, ends, goes-on, never-far}
use Rattle.text_command_line.proofs.words.words_after_name.Goals.{else-loop-number-test, then-loop-number-test+in_ok-word+in_default}
use Rattle.text_command_line.proofs.words.words_after_name.Goals as goal

pub loop-number-init : goal.loop-number-init
loop-number-init g c = λ known.
    subst (λ words. ReadsOn (g.C.CommandLine.words c.args.line.now) (map string_bytes words) 1) (sym c.new-words.ensures.items)
    (begins (g.C.CommandLine.words c.args.line.now))

pub loop-number-preserved : goal.loop-number-preserved
loop-number-preserved g c = λ known.
    let all = g.C.CommandLine.words c.args.line.now in
    let more = goes-on all (map string_bytes c.loop-number.words.items) (string_bytes c.in-Some.word) c.loop-number.number
    (c.loop-number.invariant known) (c.in_ok-word.ensures.few known)
    (ap (λ found. option_map string_bytes found) (sym c.in-Some.is) ∙ c.in_ok-word.ensures.shown known) in
    subst (λ words. ReadsOn all words (c.loop-number.number + 1))
    (sym (map-append string_bytes c.loop-number.words.items (c.in-Some.word ∷ [])) ∙ ap (map string_bytes) (sym c.in_ok-push.ensures.items)) more

pub returns : goal.returns
returns g c = λ known. elim c.loop-number-test.branch [
  | else-loop-number-test w ↦
      absurd (never-far (g.C.CommandLine.words c.args.line.now) (map string_bytes c.loop-number.words.items) c.loop-number.number (c.loop-number.invariant known) w.loop-number-test.false)
  | then-loop-number-test+in_ok-word+in_default w ↦
      ends (g.C.CommandLine.words c.args.line.now) (map string_bytes c.loop-number.words.items) c.loop-number.number (c.loop-number.invariant known)
      (ap (λ found. option_map string_bytes found) (sym w.in_default.is) ∙ w.in_ok-word.ensures.shown known)
]
