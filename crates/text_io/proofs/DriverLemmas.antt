-- One iteration of the driver's loop preserves its invariant.
use Rattle.std.proofs.Common.{◌≡◌, ◌≢◌, ℕ, ◌+◌, ◌<◌, ◌≤◌, ◌||◌, nat_le, nat_lt, Bool, true, false, List, [], ◌∷◌, ◌++◌, Result, Ok, Err, IfOk, length, get_or, take, drop, refl, ap, sym, ◌∙◌, subst, arith, append_assoc, append-nil}
use Rattle.std.specs.Result.{is_err, OnErr, OnOk}
use Rattle.std.proofs.lemmas.List.{take-append-drop, drop_more, length-take, get_or-take}
use Rattle.std.proofs.lemmas.Bool.Decides.{nat_tests}
use Rattle.text_io.specs.Lines.{Line, lines_of}
use Rattle.text_io.specs.Limits.{is_over, most_input_lines, most_line_octets}
use Rattle.text_io.specs.Devices.{Adds, IsPart, TakesEnough, WritesPrefix}
use Rattle.text_io.specs.Printing.{Rules, IsTotal, Prints, EndsAt, IsFront}
use Rattle.text_io.specs.Answering.{OfEach}
use Rattle.text_io.specs.inner.Progress.{Passes, Progress}
use Rattle.text_io.specs.declared.ending.Done.{Done}
use Rattle.text_io.specs.declared.ending.Done.TheVariants.{Ended}
use Rattle.text_io.specs.declared.machine.Turn.TheVariants.{GoesOn, Ends}
use Rattle.text_io.specs.declared.ending.RunFault.{RunFault}
use Rattle.text_io.proofs.LinesLemmas.{NoFeed, lines-at_feed, lines-first}
use Rattle.text_io.proofs.PrintingLemmas.{some-text, prints-over}

-- Octets with a line feed at some place: the line before it and the rest.
pub split-at_feed : (octets rest : List ℕ) (count : ℕ) → count < length octets → get_or octets count 0 ≡ 10
    → octets ++ rest ≡ take count octets ++ 10 ∷ (drop (count + 1) octets ++ rest)
split-at_feed octets rest count below feed =
    ap (λ xs. xs ++ rest) (sym (take-append-drop count octets) ∙ ap (λ xs. take count octets ++ xs) (drop_more octets count 0 below ∙ ap (λ c. c ∷ drop (count + 1) octets) feed))
    ∙ append_assoc (take count octets) (10 ∷ drop (count + 1) octets) rest

pub no-feed-front : (octets : List ℕ) (count : ℕ) → ((k : ℕ) → k < count → get_or octets k 0 ≢ 10) → NoFeed (take count octets)
no-feed-front octets count before k below =
    let within : k < count = omega (arith, length-take count octets) in
    let Q : ℕ → Type 0 = λ n. n ≢ 10 in
    subst Q (sym (get_or-take count octets k 0 within)) (before k within)

-- Octets that were searched are still searched once more follow them.
pub none-longer : (octets window window' : List ℕ) → octets ≡ window → take (length window) window' ≡ window
    → ((k : ℕ) → k < length octets → get_or octets k 0 ≢ 10) → (k : ℕ) → k < length octets → get_or window' k 0 ≢ 10
none-longer octets window window' same front none k below =
    let Q : ℕ → Type 0 = λ n. n ≢ 10 in
    let within : k < length window = subst (λ (xs : List ℕ). k < length xs) same below in
    subst Q (ap (λ xs. get_or xs k 0) (same ∙ sym front) ∙ get_or-take (length window) window' k 0 within) (none k below)

-- Case analysis on `is_err`.
pub at-err : {T E : Type 0} (r : Result T E) (P : Type 0) → is_err r ≡ true → OnErr r P → P
at-err (Ok x) P e h = cc
at-err (Err y) P e h = h

pub at-ok : {T E : Type 0} (r : Result T E) (P : Type 0) → is_err r ≡ false → OnOk r P → P
at-ok (Ok x) P e h = h
at-ok (Err y) P e h = cc

-- Transport of a text along equalities.
pub reprinted : {World : Type 0} (rules : Rules World) (start : World) (octets octets' text text' : List ℕ) (done : Done)
    → octets ≡ octets' → text ≡ text' → Prints rules 0 start (lines_of octets) text done → Prints rules 0 start (lines_of octets') text' done
reprinted {World = World} rules start octets octets' text text' done same alike prints =
    let P : List ℕ → Type 0 = λ xs. Prints {World = World} rules 0 start (lines_of xs) text done in
    let Q : List ℕ → Type 0 = λ xs. Prints {World = World} rules 0 start (lines_of octets') xs done in
    subst Q alike (subst P same prints)

-- And of where they lead.
pub led : {World : Type 0} (rules : Rules World) (start last : World) (octets octets' text text' : List ℕ)
    → octets ≡ octets' → text ≡ text' → EndsAt rules 0 start (lines_of octets) text last → EndsAt rules 0 start (lines_of octets') text' last
led {World = World} rules start last octets octets' text text' same alike leads =
    let P : List ℕ → Type 0 = λ xs. EndsAt {World = World} rules 0 start (lines_of xs) text last in
    let Q : List ℕ → Type 0 = λ xs. EndsAt {World = World} rules 0 start (lines_of octets') xs last in
    subst Q alike (subst P same leads)

-- The invariant holds at the start.
pub begin : {World : Type 0} (rules : Rules World) (shown : World → Type 0) (Known Held : Type 0) (whole before : List ℕ)
    → Progress rules shown shown Known Held whole whole before before [] 0
begin rules shown Known Held whole before = record {
  answered = [];
  printed = [];
  came = λ _. refl;
  gave = λ _. ([], sym (append-nil before), refl);
  reaches = λ start sound is_shown. record { present = start; sound = sound; is_shown = is_shown; leads = λ later more done prints. prints; reaches = λ later more last leads. leads };
}

-- A line and the octets after it, associated to the left.
line-front : (answered line later : List ℕ) → answered ++ (line ++ 10 ∷ later) ≡ (answered ++ (line ++ 10 ∷ [])) ++ later
line-front answered line later =
    ap (λ xs. answered ++ xs) (sym (append_assoc line (10 ∷ []) later)) ∙ sym (append_assoc answered (line ++ 10 ∷ []) later)

-- The invariant after a line that doesn't end the run.
pub progress-line : {World : Type 0} (rules : Rules World) (shown now now' : World → Type 0) (Known Held : Type 0)
    (whole left line later before held old new : List ℕ) (met : ℕ)
    → NoFeed line → left ≡ line ++ 10 ∷ later → Passes rules met now (record { octets = line; ended = true }) GoesOn now' old new
    → Progress rules shown now Known Held whole left before held old met → Progress rules shown now' Known Held whole later before held new (met + 1)
progress-line {World = World} rules shown now now' Known Held whole left line later before held old new met none cut passes p = record {
  answered = p.answered ++ (line ++ 10 ∷ []);
  printed = p.printed ++ passes.0;
  came = λ known. p.came known ∙ ap (λ xs. p.answered ++ xs) cut ∙ line-front p.answered line later;
  gave = λ is_held.
      let gave = p.gave is_held in
      (gave.0, gave.1, ap (λ xs. xs ++ passes.0) gave.2 ∙ append_assoc gave.0 old passes.0 ∙ ap (λ xs. gave.0 ++ xs) (sym passes.1));
  reaches = λ start sound is_shown.
      let r = p.reaches start sound is_shown in
      let after = passes.2 r.present r.sound r.is_shown in
      record {
        present = after.0;
        sound = after.1;
        is_shown = after.2;
        leads = λ rest more done prints.
            let Q : List Line → Type 0 = λ lines. Prints {World = World} rules met r.present lines (passes.0 ++ more) done in
            reprinted rules start (p.answered ++ (line ++ 10 ∷ rest)) ((p.answered ++ (line ++ 10 ∷ [])) ++ rest)
            (p.printed ++ (passes.0 ++ more)) ((p.printed ++ passes.0) ++ more) done
            (line-front p.answered line rest) (sym (append_assoc p.printed passes.0 more))
            (r.leads (line ++ 10 ∷ rest) (passes.0 ++ more) done
            (subst Q (sym (lines-at_feed line rest none)) (after.3 (lines_of rest) more done prints)));
        reaches = λ rest more last leads.
            let Q : List Line → Type 0 = λ lines. EndsAt {World = World} rules met r.present lines (passes.0 ++ more) last in
            led rules start last (p.answered ++ (line ++ 10 ∷ rest)) ((p.answered ++ (line ++ 10 ∷ [])) ++ rest)
            (p.printed ++ (passes.0 ++ more)) ((p.printed ++ passes.0) ++ more)
            (line-front p.answered line rest) (sym (append_assoc p.printed passes.0 more))
            (r.reaches (line ++ 10 ∷ rest) (passes.0 ++ more) last
            (subst Q (sym (lines-at_feed line rest none)) (after.4 (lines_of rest) more last leads)));
      };
}

-- The invariant after some answers are written.
pub progress-given : {World : Type 0} (rules : Rules World) (shown now : World → Type 0) (Known Held : Type 0)
    (whole left before held held' waiting waiting' : List ℕ) (met : ℕ)
    → (Held → WritesPrefix held held' waiting waiting')
    → Progress rules shown now Known Held whole left before held waiting met → Progress rules shown now Known Held whole left before held' waiting' met
progress-given rules shown now Known Held whole left before held held' waiting waiting' met moves p = record {
  answered = p.answered;
  printed = p.printed;
  came = p.came;
  gave = λ is_held.
      let gave = p.gave is_held in
      let moved = moves is_held in (
        gave.0 ++ moved.0,
        moved.2 ∙ ap (λ xs. xs ++ moved.0) gave.1 ∙ append_assoc before gave.0 moved.0,
        gave.2 ∙ ap (λ xs. gave.0 ++ xs) moved.1 ∙ sym (append_assoc gave.0 moved.0 waiting'),
      );
  reaches = p.reaches;
}

-- All waiting octets were written.
pub all-moved : (before after waiting left : List ℕ) → after ≡ before ++ waiting → left ≡ [] → WritesPrefix before after waiting left
all-moved before after waiting left given none = (waiting, sym (append-nil waiting) ∙ ap (λ xs. waiting ++ xs) (sym none), given)

-- Transport of the invariant along an equality of the octets left.
pub progress-left : {World : Type 0} (rules : Rules World) (shown now : World → Type 0) (Known Held : Type 0)
    (whole left left' before held waiting : List ℕ) (met : ℕ) → (Known → left ≡ left')
    → Progress rules shown now Known Held whole left before held waiting met → Progress rules shown now Known Held whole left' before held waiting met
progress-left rules shown now Known Held whole left left' before held waiting met same p = record {
  answered = p.answered;
  printed = p.printed;
  came = λ known. p.came known ∙ ap (λ xs. p.answered ++ xs) (same known);
  gave = p.gave;
  reaches = p.reaches;
}

-- The octets written before and the last answers are the text of the whole input.
pub text-of : {World : Type 0} (rules : Rules World) (shown now : World → Type 0) (Known Held : Type 0)
    (whole left before held held' old here : List ℕ) (met : ℕ) (done : Done) → Known → Held
    → OfEach rules now (λ present. Prints rules met present (lines_of left) here done) → held' ≡ held ++ (old ++ here)
    → Progress rules shown now Known Held whole left before held old met
    → OfEach rules shown (λ start. Adds (λ text. Prints rules 0 start (lines_of whole) text done) before held')
text-of rules shown now Known Held whole left before held held' old here met done known is_held closes given p = λ start sound is_shown.
    let r = p.reaches start sound is_shown in
    let gave = p.gave is_held in (
      gave.0 ++ (old ++ here),
      given ∙ ap (λ xs. xs ++ (old ++ here)) gave.1 ∙ append_assoc before gave.0 (old ++ here),
      reprinted rules start (p.answered ++ left) whole (p.printed ++ here) (gave.0 ++ (old ++ here)) done
          (sym (p.came known)) (ap (λ xs. xs ++ here) gave.2 ∙ append_assoc gave.0 old here)
          (r.leads left here done (closes r.present r.sound r.is_shown)),
    )

-- The whole input leads to a world that is shown in the end.
pub world-of : {World : Type 0} (rules : Rules World) (shown now after : World → Type 0) (Known Held : Type 0)
    (whole left before held held' old here : List ℕ) (met : ℕ) → Known
    → OfEach rules now (λ present. (last : World) × after last × EndsAt rules met present (lines_of left) here last)
    → (Held → held' ≡ held ++ (old ++ here))
    → Progress rules shown now Known Held whole left before held old met
    → OfEach rules shown (λ start. (text : List ℕ) × (last : World) × after last × EndsAt rules 0 start (lines_of whole) text last
    × (Held → held' ≡ before ++ text))
world-of rules shown now after Known Held whole left before held held' old here met known closes given p = λ start sound is_shown.
    let r = p.reaches start sound is_shown in
    let end = closes r.present r.sound r.is_shown in (
      p.printed ++ here,
      end.0,
      end.1,
      led rules start end.0 (p.answered ++ left) whole (p.printed ++ here) (p.printed ++ here) (sym (p.came known)) refl (r.reaches left here end.0 end.2),
      λ is_held.
          let gave = p.gave is_held in
          given is_held ∙ ap (λ xs. xs ++ (old ++ here)) gave.1 ∙ append_assoc before gave.0 (old ++ here)
          ∙ ap (λ xs. before ++ xs) (sym (append_assoc gave.0 old here) ∙ ap (λ xs. xs ++ here) (sym gave.2)),
    )

-- A prefix of the last answers gives a prefix of the text.
pub front-of-last : {World : Type 0} (rules : Rules World) (shown now : World → Type 0) (Known Held : Type 0)
    (whole left before held held' old : List ℕ) (met : ℕ) → Known → Held
    → OfEach rules now (λ present. (here : List ℕ) × (done : Done) × IsPart held held' (old ++ here) × Prints rules met present (lines_of left) here done)
    → Progress rules shown now Known Held whole left before held old met
    → OfEach rules shown (λ start. Adds (IsFront (Prints rules 0 start (lines_of whole))) before held')
front-of-last rules shown now Known Held whole left before held held' old met known is_held closes p = λ start sound is_shown.
    let r = p.reaches start sound is_shown in
    let gave = p.gave is_held in
    let last = closes r.present r.sound r.is_shown in
    let here = last.0 in
    let part = last.2 in (
      gave.0 ++ part.0,
      part.3 ∙ ap (λ xs. xs ++ part.0) gave.1 ∙ append_assoc before gave.0 part.0,
      (
        part.1,
        last.1,
        reprinted rules start (p.answered ++ left) whole (p.printed ++ here) ((gave.0 ++ part.0) ++ part.1) last.1
            (sym (p.came known))
            (ap (λ xs. xs ++ here) gave.2 ∙ append_assoc gave.0 old here ∙ ap (λ xs. gave.0 ++ xs) part.2 ∙ sym (append_assoc gave.0 part.0 part.1))
            (r.leads left here last.1 last.3),
      ),
    )

-- So does a prefix of the waiting octets, since the rest of the input has some answer.
pub front-of : {World : Type 0} (rules : Rules World) → IsTotal rules → (shown now : World → Type 0) (Known Held : Type 0)
    (whole left before held held' old : List ℕ) (met : ℕ) → Known → Held → IsPart held held' old
    → Progress rules shown now Known Held whole left before held old met
    → OfEach rules shown (λ start. Adds (IsFront (Prints rules 0 start (lines_of whole))) before held')
front-of rules total shown now Known Held whole left before held held' old met known is_held part p =
    front-of-last rules shown now Known Held whole left before held held' old met known is_held
    (λ present sound is_shown.
    let text = some-text rules total (lines_of left) met present sound in (
      text.0,
      text.1,
      (part.0, part.1 ++ text.0, ap (λ xs. xs ++ text.0) part.2 ∙ append_assoc part.0 part.1 text.0, part.3),
      text.2,
    ))
    p

-- No more was read than the octets answered and at most a window.
pub enough : {World : Type 0} (rules : Rules World) (shown now : World → Type 0) (Known Held : Type 0)
    (whole left near ahead rest before held old here : List ℕ) (met most : ℕ) (done : Done) → Known
    → left ≡ near ++ (ahead ++ rest) → length ahead ≤ most
    → OfEach rules now (λ present. Prints rules met present (lines_of near) here done)
    → Progress rules shown now Known Held whole left before held old met
    → OfEach rules shown (λ start. TakesEnough (λ octets. (text : List ℕ) × Prints rules 0 start (lines_of octets) text done) most whole rest)
enough rules shown now Known Held whole left near ahead rest before held old here met most done known cut short closes p = λ start sound is_shown.
    let r = p.reaches start sound is_shown in (
      p.answered ++ near,
      ahead,
      p.came known ∙ ap (λ xs. p.answered ++ xs) cut ∙ sym (append_assoc p.answered near (ahead ++ rest)),
      short,
      (p.printed ++ here, r.leads near here done (closes r.present r.sound r.is_shown)),
    )

-- A line that ends the run, whatever follows.
pub line-ends : {World : Type 0} (rules : Rules World) (now now' : World → Type 0) (line later old new : List ℕ) (met : ℕ)
    → NoFeed line → (passes : Passes rules met now (record { octets = line; ended = true }) Ends now' old new)
    → OfEach rules now (λ present. Prints rules met present (lines_of (line ++ 10 ∷ later)) passes.0 Ended)
line-ends {World = World} rules now now' line later old new met none passes = λ present sound is_shown.
    let Q : List Line → Type 0 = λ lines. Prints {World = World} rules met present lines passes.0 Ended in
    subst Q (sym (lines-at_feed line later none)) (passes.2 present sound is_shown (lines_of later))

-- Octets without a line feed that are already over the limits.
long-text : {World : Type 0} (rules : Rules World) (met : ℕ) (before : World) (octets rest : List ℕ)
    → 0 < length octets → NoFeed octets → ((line : Line) → length octets ≤ length line.octets → is_over met line ≡ true)
    → Prints rules met before (lines_of (octets ++ rest)) rules.too_long Ended
long-text rules met before [] rest some none over = absurd (omega arith)
long-text {World = World} rules met before (c ∷ cs) rest some none over =
    let first = lines-first c cs rest none in
    let Q : List Line → Type 0 = λ lines. Prints {World = World} rules met before lines rules.too_long Ended in
    subst Q (sym first.cut) (prints-over rules met before first.line first.lines (over first.line first.long))

-- A longer line than one over the limits is over them too.
over-longer : (met n m : ℕ) → n ≤ m → (nat_le most_input_lines met || nat_lt most_line_octets n) ≡ true → (nat_le most_input_lines met || nat_lt most_line_octets m) ≡ true
over-longer met n m longer over = grind (arith, nat_tests)

-- A window without a line feed that is already over the limits, whatever follows.
pub window-over : {World : Type 0} (rules : Rules World) (now : World → Type 0) (met waiting : ℕ) (window window' rest : List ℕ) (result : Bool)
    → window' ≡ window → waiting ≡ length window' → 0 < waiting → ((k : ℕ) → k < length window' → get_or window' k 0 ≢ 10)
    → result ≡ (nat_le most_input_lines met || nat_lt most_line_octets waiting) → result ≡ true
    → OfEach rules now (λ present. Prints rules met present (lines_of (window ++ rest)) rules.too_long Ended)
window-over {World = World} rules now met waiting window window' rest result same sized some none is over = λ present sound is_shown.
    let P : List ℕ → Type 0 = λ xs. Prints {World = World} rules met present (lines_of (xs ++ rest)) rules.too_long Ended in
    subst P same
    (long-text rules met present window' rest (omega arith) none
    (λ line longer. over-longer met waiting (length line.octets) (omega arith) (sym is ∙ over)))

-- A property of the result that doesn't depend on the output.
pub at-done : (result : Result Done RunFault) (done : Done) (P : Done → Type 0) → IfOk result (λ value. value ≡ done) → P done → IfOk result P
at-done (Ok value) done P same holds = subst P (sym same) holds
at-done (Err fault) done P same holds = tt

-- A property of the result if all was written.
pub at-given : (result : Result Done RunFault) (done : Done) (All : Type 0) (P : Done → Type 0)
    → IfOk result (λ value. value ≡ done) → OnOk result All → (All → P done) → IfOk result P
at-given (Ok value) done All P same all holds = subst P (sym same) (holds all)
at-given (Err fault) done All P same all holds = tt

-- A property of the result if the call failed.
pub at-fault : (result : Result Done RunFault) (Part Front : Type 0) → OnErr result Part → (Part → Front) → OnErr result Front
at-fault (Ok value) Part Front part holds = tt
at-fault (Err fault) Part Front part holds = holds part

-- A property of the result, at a result that is known.
pub at-result : (result : Result Done RunFault) (P : Done → Type 0) (done : Done) → result ≡ Ok done → IfOk result P → P done
at-result result P done same holds = subst (λ (r : Result Done RunFault). IfOk r P) same holds
