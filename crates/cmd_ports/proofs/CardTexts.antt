-- The text of a card.
use Rattle.std.proofs.Common.{◌≡◌, ℕ, ◌<◌, List, [], ◌++◌, length, Option, Some, None, IfSome, true, false, Result, Ok, Err, IfOk, OnOk, OnErr, is_err, append_assoc, codes, refl, ap, subst, sym, ◌∙◌}
use Rattle.std.proofs.lemmas.Option.{slice_get_within}
use Rattle.line_record.specs.Line.{LineView}
use Rattle.line_record.specs.declared.tally.Tally.{Tally}
use Rattle.card_core.specs.declared.shape.Shape.{Shape}
use Rattle.port_card.specs.Closing.{IsFirstUneven}
use Rattle.text_io.specs.Devices.{Adds, IsPart}
use Rattle.text_io.specs.Printing.{IsFront}
use Rattle.text_io.specs.declared.ending.Done.{Done}
use Rattle.text_io.specs.declared.ending.RunFault.{RunFault}
use Rattle.cmd_ports.specs.ClosingText.{closing_text, done_of}
use Rattle.text_script.specs.Dealing.{AreLinesOf}
use Rattle.cmd_ports.specs.PortsText.{IsCardText}
use Rattle.cmd_ports.specs.ScriptAnswers.{AnswersScript}
use Rattle.cmd_ports.specs.inner.Script.{AnswersCard, OfLines}

-- A line that is uneven is one of the card's.
pub uneven-within : (lines : List LineView) (otherwise : ℕ → Tally) (uneven : Option ℕ) (all : ℕ) → length lines ≡ all → IsFirstUneven lines otherwise uneven
    → IfSome uneven (λ number. number < all)
uneven-within lines otherwise None all sized first = tt
uneven-within lines otherwise (Some number) all sized first =
    subst (λ n. number < n) sized (slice_get_within lines number first.0.line first.0.there)

-- The card's answer, and then those to the lines: the counts of the closed card are those of its seats.
pub card-answered : (shape opened : Shape) (octets lines start mid new : List ℕ) (counts used : Tally) → opened ≡ shape → lines ≡ octets
    → mid ≡ start ++ codes "ready\n" → Adds (λ text. OfLines lines (λ each. AnswersScript opened.side each text used)) mid new → counts ≡ used
    → Adds (λ text. OfLines octets (λ each. AnswersCard shape.side each text counts)) start new
card-answered shape opened octets lines start mid new counts used same same_lines ready (text, adds, printed) sums = (
  codes "ready\n" ++ text,
  adds ∙ ap (λ (t : List ℕ). t ++ text) ready ∙ append_assoc start (codes "ready\n") text,
  λ each are.
      let answers = printed each (subst (λ (xs : List ℕ). AreLinesOf xs each) (sym same_lines) are) in
      let counted = subst (λ (t : Tally). AnswersScript opened.side each text t) (sym sums) answers in
      (text, refl, subst (λ (s : Shape). AnswersScript s.side each text counts) same counted),
)

-- The answers of a card and its closing text.
pub card-text : (shape : Shape) (octets held held' start answers last : List ℕ) (counts : Tally) (uneven : Option ℕ) (done : Done)
    → Adds (λ text. OfLines octets (λ each. AnswersCard shape.side each text counts)) start answers → start ≡ [] → IfSome uneven (λ number. number < shape.lines)
    → last ≡ answers ++ closing_text counts uneven → held' ≡ held ++ last → done ≡ done_of uneven
    → Adds (λ text. OfLines octets (λ lines. IsCardText shape lines text done)) held held'
card-text shape octets held held' start answers last counts uneven done (text, adds, card) empty within more given ends =
    let closing = closing_text counts uneven in
    let whole : last ≡ text ++ closing = more ∙ ap (λ (t : List ℕ). t ++ closing) (adds ∙ ap (λ (t : List ℕ). t ++ text) empty) in (
      last,
      given,
      λ lines are.
          let here = card lines are in
          record {
            answers = here.0;
            counts = counts;
            each = here.2;
            uneven = uneven;
            within = within;
            whole = whole ∙ ap (λ (t : List ℕ). t ++ closing) here.1;
            ends = ends;
          },
    )

-- The text was given, or a prefix of it.
pub last-given : (Known : Type 0) (shape : Shape) (octets held held' start answers last : List ℕ) (counts : Tally) (uneven : Option ℕ) (end : Done) (result : Result Done RunFault)
    → Adds (λ text. OfLines octets (λ each. AnswersCard shape.side each text counts)) start answers → start ≡ [] → IfSome uneven (λ number. number < shape.lines)
    → last ≡ answers ++ closing_text counts uneven → (Known → OnOk result (held' ≡ held ++ last)) → IfOk result (λ done. done ≡ end) → end ≡ done_of uneven
    → IfOk result (λ done. (text : List ℕ) × (Known → held' ≡ held ++ text) × OfLines octets (λ lines. IsCardText shape lines text done))
unfolding card-text
last-given Known shape octets held held' start answers last counts uneven end (Ok done) card empty within more given same ends =
    let whole = card-text shape octets [] last start answers last counts uneven done card empty within more refl (same ∙ ends) in
    (last, given, whole.2)
last-given Known shape octets held held' start answers last counts uneven end (Err fault) card empty within more given same ends = tt

front-of : (shape : Shape) (octets held held' start answers last : List ℕ) (counts : Tally) (uneven : Option ℕ)
    → Adds (λ text. OfLines octets (λ each. AnswersCard shape.side each text counts)) start answers → start ≡ [] → IfSome uneven (λ number. number < shape.lines)
    → last ≡ answers ++ closing_text counts uneven → IsPart held held' last
    → OfLines octets (λ lines. Adds (IsFront (IsCardText shape lines)) held held')
unfolding card-text
front-of shape octets held held' start answers last counts uneven card empty within more (given, left, parts, adds) = λ lines are.
    let whole = card-text shape octets [] last start answers last counts uneven (done_of uneven) card empty within more refl refl in
    (given, adds, (left, done_of uneven, subst (λ (t : List ℕ). IsCardText shape lines t (done_of uneven)) parts (whole.2 lines are)))

pub last-front : (shape : Shape) (octets held held' start answers last : List ℕ) (counts : Tally) (uneven : Option ℕ) (result : Result Done RunFault)
    → Adds (λ text. OfLines octets (λ each. AnswersCard shape.side each text counts)) start answers → start ≡ [] → IfSome uneven (λ number. number < shape.lines)
    → last ≡ answers ++ closing_text counts uneven → OnErr result (IsPart held held' last)
    → OnErr result (OfLines octets (λ lines. Adds (IsFront (IsCardText shape lines)) held held'))
last-front shape octets held held' start answers last counts uneven (Ok done) card empty within more part = tt
last-front shape octets held held' start answers last counts uneven (Err fault) card empty within more part =
    front-of shape octets held held' start answers last counts uneven card empty within more part

-- What an Ok ensures, of a result that is no Err.
pub ok-of : {T E X : Type 0} (result : Result T E) → is_err result ≡ false → OnOk result X → X
ok-of (Ok value) is here = here
ok-of (Err fault) is here = let no : true ≡ false = is in cc
