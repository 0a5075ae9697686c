-- Texts of lines: existence, and how a text grows line by line.
use Rattle.std.proofs.Common.{◌≡◌, ℕ, ◌+◌, ◌<◌, Bool, true, false, List, [], ◌∷◌, ◌++◌, Option, Some, None, length, refl, ap, sym, ◌∙◌, subst, append_assoc, append-nil}
use Rattle.std.specs.Option.{MatchOption}
use Rattle.std.specs.Prelude.{MatchBool}
use Rattle.text_io.specs.Lines.{Line, line_content}
use Rattle.text_io.specs.Limits.{is_over}
use Rattle.text_io.specs.Printing.{Rules, IsTotal, Prints, EndsAt}
use Rattle.text_io.specs.Answering.{OfEach, Answers, AnswersEnd, TurnsFrom}
use Rattle.text_io.specs.inner.Progress.{Concludes, Passes, PassesBy}
use Rattle.text_io.proofs.LinesLemmas.{NoFeed, lines-of_rest}
use Rattle.text_io.specs.declared.ending.Done.{Done}
use Rattle.text_io.specs.declared.ending.Done.TheVariants.{Whole, Ended}
use Rattle.text_io.specs.declared.machine.Turn.{Turn}
use Rattle.text_io.specs.declared.machine.Turn.TheVariants.{GoesOn, Ends}

-- An answered line within the limits.
prints-here : {World : Type 0} (rules : Rules World) (met : ℕ) (world : World) (line : Line) (lines : List Line) (text : List ℕ) (done : Done)
    → is_over met line ≡ false
    → ((here : List ℕ) × (more : List ℕ) × (next : Option World) × (text ≡ here ++ more) × rules.steps world (line_content line) here next
    × MatchOption next ((more ≡ []) × (done ≡ Ended)) (λ v. Prints rules (met + 1) v lines more done))
    → Prints rules met world (line ∷ lines) text done
prints-here rules met world line lines text done over answered = rw over answered

-- A line that leads on.
ends-here : {World : Type 0} (rules : Rules World) (met : ℕ) (world next last : World) (line : Line) (lines : List Line) (here more : List ℕ)
    → is_over met line ≡ false → rules.steps world (line_content line) here (Some next) → EndsAt rules (met + 1) next lines more last
    → EndsAt rules met world (line ∷ lines) (here ++ more) last
ends-here rules met world next last line lines here more over step from_next = (over, (here, more, next, refl, step, from_next))

-- Lines that lead to a world have that text.
pub ends-print : {World : Type 0} (rules : Rules World) (met : ℕ) (world last : World) (lines : List Line) (text : List ℕ)
    → EndsAt rules met world lines text last → Prints rules met world lines text Whole
ends-print rules met world last [] text leads = leads.1
ends-print rules met world last (line ∷ lines) text (over, (here, more, next, is, step, from_next)) =
    prints-here rules met world line lines text Whole over
    (here, more, Some next, is, step, ends-print rules (met + 1) next last lines more from_next)

-- A text of lines that aren't ended early leads to a world.
next-ends : {World : Type 0} (rules : Rules World) (met : ℕ) (world : World) (line : Line) (lines : List Line) (text here more : List ℕ)
    → ((v : World) (left : List ℕ) → Prints rules (met + 1) v lines left Whole → (last : World) × EndsAt rules (met + 1) v lines left last)
    → (next : Option World) → is_over met line ≡ false → text ≡ here ++ more → rules.steps world (line_content line) here next
    → MatchOption next ((more ≡ []) × (Whole ≡ Ended)) (λ v. Prints rules (met + 1) v lines more Whole)
    → (last : World) × EndsAt rules met world (line ∷ lines) text last
next-ends rules met world line lines text here more from_next None over is step rest = let no : Whole ≡ Ended = rest.1 in cc
next-ends rules met world line lines text here more from_next (Some next) over is step rest =
    let later = from_next next more rest in (later.0, (over, (here, more, next, is, step, later.1)))

line-ends-at : {World : Type 0} (rules : Rules World) (met : ℕ) (world : World) (line : Line) (lines : List Line) (text : List ℕ)
    → ((v : World) (left : List ℕ) → Prints rules (met + 1) v lines left Whole → (last : World) × EndsAt rules (met + 1) v lines left last)
    → (over : Bool) → is_over met line ≡ over
    → MatchBool over ((text ≡ rules.too_long) × (Whole ≡ Ended))
    ((here : List ℕ) × (more : List ℕ) × (next : Option World) × (text ≡ here ++ more) × rules.steps world (line_content line) here next
    × MatchOption next ((more ≡ []) × (Whole ≡ Ended)) (λ v. Prints rules (met + 1) v lines more Whole))
    → (last : World) × EndsAt rules met world (line ∷ lines) text last
line-ends-at rules met world line lines text from_next true over printed = let no : Whole ≡ Ended = printed.1 in cc
line-ends-at rules met world line lines text from_next false over (here, more, next, is, step, rest) =
    next-ends rules met world line lines text here more from_next next over is step rest

pub prints-end : {World : Type 0} (rules : Rules World) (met : ℕ) (world : World) (lines : List Line) (text : List ℕ)
    → Prints rules met world lines text Whole → (last : World) × EndsAt rules met world lines text last
prints-end rules met world [] text closes = (world, (refl, closes))
prints-end rules met world (line ∷ lines) text prints =
    line-ends-at rules met world line lines text (λ v left. prints-end rules (met + 1) v lines left) (is_over met line) refl prints

-- A line over the limits.
pub prints-over : {World : Type 0} (rules : Rules World) (met : ℕ) (world : World) (line : Line) (lines : List Line)
    → is_over met line ≡ true → Prints rules met world (line ∷ lines) rules.too_long Ended
prints-over rules met world line lines over = rw over (refl, refl)

-- Every list of lines has a text, from every sound world.
pub some-text : {World : Type 0} (rules : Rules World) → IsTotal rules
    → (lines : List Line) (met : ℕ) (world : World) → rules.is_sound world → (text : List ℕ) × (done : Done) × Prints rules met world lines text done
some-text rules total [] met world sound = total.close world sound
some-text {World = World} rules total (line ∷ lines) met world sound =
    go (λ v is. some-text rules total lines (met + 1) v is) (is_over met line) refl
  where
    FromNext : Type 0
    FromNext = (v : World) → rules.is_sound v → (more : List ℕ) × (done : Done) × Prints rules (met + 1) v lines more done

    after : FromNext → (here : List ℕ) (next : Option World) → rules.steps world (line_content line) here next
        → (more : List ℕ) × (done : Done) × MatchOption next ((more ≡ []) × (done ≡ Ended)) (λ v. Prints rules (met + 1) v lines more done)
    after from_next here None step = ([], Ended, (refl, refl))
    after from_next here (Some v) step = from_next v (total.keeps world (line_content line) here v sound step)

    go : FromNext → (over : Bool) → is_over met line ≡ over → (text : List ℕ) × (done : Done) × Prints rules met world (line ∷ lines) text done
    go from_next true e = (rules.too_long, Ended, prints-over rules met world line lines e)
    go from_next false e =
        let now = total.step world (line_content line) sound in
        let then = after from_next now.0 now.1 now.2 in
        (now.0 ++ then.0, then.1, prints-here rules met world line lines (now.0 ++ then.0) then.1 e (now.0, then.0, now.1, refl, now.2, then.2))

-- One line from one world.
passes-from : {World : Type 0} (rules : Rules World) → IsTotal rules → (met : ℕ) (before : World) (line : Line) (here : List ℕ) (turn : Turn) (shown' : World → Type 0)
    → rules.is_sound before → is_over met line ≡ false → TurnsFrom rules before (line_content line) here turn shown' → PassesBy rules met before line here turn shown'
passes-from rules total met before line here Ends shown' sound over turns =
    λ lines. prints-here rules met before line lines here Ended over (here, [], None, sym (append-nil here), turns, (refl, refl))
passes-from rules total met before line here GoesOn shown' sound over turns = (
  turns.0,
  total.keeps before (line_content line) here turns.0 sound turns.2,
  turns.1,
  λ lines more done prints. prints-here rules met before line lines (here ++ more) done over (here, more, Some turns.0, refl, turns.2, prints),
  λ lines more last leads. ends-here rules met before turns.0 last line lines here more over turns.2 leads,
)

-- A line within the limits, as the machine answers it.
pub passes-answered : {World : Type 0} (rules : Rules World) → IsTotal rules → (met : ℕ) (shown : World → Type 0) (line : Line) (turn : Turn) (shown' : World → Type 0) (old new : List ℕ)
    → is_over met line ≡ false → Answers rules shown (line_content line) turn shown' old new → Passes rules met shown line turn shown' old new
passes-answered rules total met shown line turn shown' old new over answers = (
  answers.0,
  answers.1,
  λ before sound is_shown. passes-from rules total met before line answers.0 turn shown' sound over (answers.2 before sound is_shown),
)

-- A line over the limits.
pub passes-over : {World : Type 0} (rules : Rules World) (met : ℕ) (shown shown' : World → Type 0) (line : Line) (old : List ℕ)
    → is_over met line ≡ true → Passes rules met shown line Ends shown' old (old ++ rules.too_long)
passes-over rules met shown shown' line old over = (rules.too_long, refl, λ before sound is_shown lines. prints-over rules met before line lines over)

-- The answer to octets without a line feed and to the end of the input.
abbrev pub EndsAfter : {World : Type 0} → Rules World → ℕ → (World → Type 0) → (World → Type 0) → List ℕ → Done → List ℕ → List ℕ → Type 0
EndsAfter rules met shown shown' octets done old new =
    (here : List ℕ) × (new ≡ old ++ here) × OfEach rules shown (λ before. Concludes rules met shown' octets before here done)

pub end-over : {World : Type 0} (rules : Rules World) (met : ℕ) (shown shown' : World → Type 0) (octets old new : List ℕ)
    → 0 < length octets → NoFeed octets → is_over met (record { octets = octets; ended = false }) ≡ true
    → new ≡ old ++ rules.too_long → EndsAfter rules met shown shown' octets Ended old new
end-over rules met shown shown' octets old new some none over grown = (
  rules.too_long,
  grown,
  λ before sound is_shown. (
    rw (lines-of_rest octets some none) (prints-over rules met before (record { octets = octets; ended = false }) [] over),
    λ no. cc,
  ),
)

-- Nothing is left before the end of the input.
pub end-closes : {World : Type 0} (rules : Rules World) (met : ℕ) (shown : World → Type 0) (octets old new : List ℕ) (done : Done)
    → octets ≡ [] → AnswersEnd rules shown done old new → EndsAfter rules met shown shown octets done old new
end-closes rules met shown octets old new done none end = (
  end.0,
  end.1,
  λ before sound is_shown.
      let P : Done → Type 0 = λ d. rules.closes before end.0 d in
      let closes = end.2 before sound is_shown in
      rw none (closes, λ whole. (before, is_shown, (refl, subst P whole closes))),
)

pub end-ends : {World : Type 0} (rules : Rules World) (met : ℕ) (shown shown' : World → Type 0) (octets old new : List ℕ)
    → 0 < length octets → NoFeed octets → is_over met (record { octets = octets; ended = false }) ≡ false
    → Answers rules shown octets Ends shown' old new → EndsAfter rules met shown shown' octets Ended old new
end-ends rules met shown shown' octets old new some none over answers = (
  answers.0,
  answers.1,
  λ before sound is_shown. (
    rw (lines-of_rest octets some none)
        (prints-here rules met before (record { octets = octets; ended = false }) [] answers.0 Ended over (answers.0, [], None, sym (append-nil answers.0), answers.2 before sound is_shown, (refl, refl))),
    λ no. cc,
  ),
)

pub end-goes : {World : Type 0} (rules : Rules World) → IsTotal rules → (met : ℕ) (shown shown' : World → Type 0) (octets old mid new : List ℕ) (done : Done)
    → 0 < length octets → NoFeed octets → is_over met (record { octets = octets; ended = false }) ≡ false
    → Answers rules shown octets GoesOn shown' old mid → AnswersEnd rules shown' done mid new → EndsAfter rules met shown shown' octets done old new
end-goes rules total met shown shown' octets old mid new done some none over answers end = (
  answers.0 ++ end.0,
  end.1 ∙ ap (λ xs. xs ++ end.0) answers.1 ∙ append_assoc old answers.0 end.0,
  λ before sound is_shown.
      let turns = answers.2 before sound is_shown in
      let sound' = total.keeps before octets answers.0 turns.0 sound turns.2 in
      let closes = end.2 turns.0 sound' turns.1 in
      let P : Done → Type 0 = λ d. rules.closes turns.0 end.0 d in
      rw (lines-of_rest octets some none) (
        prints-here rules met before (record { octets = octets; ended = false }) [] (answers.0 ++ end.0) done over
            (answers.0, end.0, Some turns.0, refl, turns.2, closes),
        λ whole. (
          turns.0,
          turns.1,
          ends-here rules met before turns.0 turns.0 (record { octets = octets; ended = false }) [] answers.0 end.0 over turns.2 (refl, subst P whole closes),
        ),
      ),
)
