-- The text of `ports`, from the text of the reading and that of the run.
use Rattle.std.proofs.Common.{◌≡◌, ℕ, List, [], ◌∷◌, ◌++◌, inl, inr, Bool, refl, ap, sym, subst, append-nil, ◌∙◌, arith}
use Rattle.text_io.specs.Devices.{Adds, TakesEnough}
use Rattle.text_io.specs.Lines.{lines_of}
use Rattle.text_io.specs.Printing.{EndsAt, IsFront}
use Rattle.text_io.specs.declared.ending.Done.{Done}
use Rattle.text_io.specs.declared.ending.Done.TheVariants.{Whole, Ended}
use Rattle.text_io.proofs.Public.{ends-print, prints-end, some-text}
use Rattle.card_core.specs.declared.shape.Shape.{Shape}
use Rattle.cmd_ports.specs.PortsText.{IsCardText, IsPortsText, IsReadingText, ScriptReading, reading_rules, unread}
use Rattle.cmd_ports.specs.inner.Script.{OfLines}
use Rattle.cmd_ports.specs.inner.ReadingLaws.{reading-total}
use Rattle.text_script.specs.Dealing.{AreLinesOf}
use Rattle.cmd_ports.specs.inner.Reading.{IsStoredReading}
use Rattle.cmd_ports.proofs.ReadLines.{stored-lines}
use Rattle.cmd_ports.proofs.ReadingText.{reading-silent}
use Rattle.cmd_ports.proofs.SomeAnswers.{some-card}

first-empty : (xs ys : List ℕ) → xs ++ ys ≡ [] → xs ≡ []
first-empty [] ys none = refl
first-empty (x ∷ xs) ys none = let no : ◌≡◌ {A = List ℕ} (x ∷ (xs ++ ys)) [] = none in cc

-- A reading to the end of a script leads to the card and the lines that are answered, and has no text.
pub read-at : (octets text : List ℕ) (reading : ScriptReading) → EndsAt reading_rules 0 unread (lines_of octets) text reading
    → EndsAt reading_rules 0 unread (lines_of octets) [] reading
read-at octets text reading ends =
    subst (λ (t : List ℕ). EndsAt reading_rules 0 unread (lines_of octets) t reading)
    (reading-silent octets text (ends-print reading_rules 0 unread reading (lines_of octets) text ends)) ends

-- A script that was read to its end has a text.
some-run : (octets text : List ℕ) → IsReadingText octets text Whole → (run : List ℕ) × IsPortsText octets run Whole
some-run octets text printed =
    let reached = prints-end reading_rules 0 unread (lines_of octets) text printed in
    let card = some-card reached.0.shape reached.0.lines in
    (card.0, inr (record { reading = reached.0; read = read-at octets text reached.0 reached.1; card = card.1 }))

-- A script has a text.
some_from : (octets : List ℕ) → ((text : List ℕ) × (done : Done) × IsReadingText octets text done)
    → (text : List ℕ) × (done : Done) × IsPortsText octets text done
some_from octets (text, Ended, printed) = (text, Ended, inl (refl, printed))
some_from octets (text, Whole, printed) = let run = some-run octets text printed in (run.0, Whole, run.1)

pub some-ports_text : (octets : List ℕ) → (text : List ℕ) × (done : Done) × IsPortsText octets text done
some-ports_text octets = some_from octets (some-text reading_rules reading-total (lines_of octets) 0 unread tt)

-- The reading ended with an error of the script.
pub ended-text : (octets held new : List ℕ) → Adds (λ text. IsReadingText octets text Ended) held new
    → Adds (λ text. IsPortsText octets text Ended) held new
ended-text octets held new (text, is, printed) = (text, is, inl (refl, printed))

pub ended-left : (most : ℕ) (before after : List ℕ) → TakesEnough (λ octets. (text : List ℕ) × IsReadingText octets text Ended) most before after
    → TakesEnough (λ octets. (text : List ℕ) × IsPortsText octets text Ended) most before after
ended-left most before after (needed, ahead, cut, short, (text, printed)) = (needed, ahead, cut, short, (text, inl (refl, printed)))

-- A reading that goes on to its end has printed nothing.
broken-whole : (octets held new text more : List ℕ) → new ≡ held ++ text → IsReadingText octets (text ++ more) Whole → Adds (IsFront (IsPortsText octets)) held new
broken-whole octets held new text more is printed =
    let none : text ++ more ≡ [] = reading-silent octets (text ++ more) printed in
    let empty : text ≡ [] = first-empty text more none in
    let run = some-run octets (text ++ more) printed in
    ([], is ∙ ap (λ (t : List ℕ). held ++ t) empty, (run.0, Whole, run.1))

-- The reading failed after a prefix of its text.
pub broken-front : (octets held new : List ℕ) → Adds (IsFront (IsReadingText octets)) held new → Adds (IsFront (IsPortsText octets)) held new
broken-front octets held new (text, is, (more, Ended, printed)) = (text, is, (more, Ended, inl (refl, printed)))
broken-front octets held new (text, is, (more, Whole, printed)) =
    broken-whole octets held new text more is printed

-- The script was read to its end, and this is what was read.
pub record WasRead (Held : Type 0) (octets held mid : List ℕ) (shape : Shape) (stored : List ℕ) : Type 0 where
  pub reading : ScriptReading
  pub read : EndsAt reading_rules 0 unread (lines_of octets) [] reading
  pub shaped : reading.shape ≡ shape
  pub lines : AreLinesOf stored reading.lines
  pub silent : Held → mid ≡ held

pub was-read : (Held : Type 0) (octets held mid : List ℕ) (opened : Bool) (shape : Shape) (stored : List ℕ)
    → ((text : List ℕ) × (last : ScriptReading) × IsStoredReading opened shape stored last
    × EndsAt reading_rules 0 unread (lines_of octets) text last × (Held → mid ≡ held ++ text))
    → WasRead Held octets held mid shape stored
was-read Held octets held mid opened shape stored (text, last, is, ends, gave) =
    let none = reading-silent octets text (ends-print reading_rules 0 unread last (lines_of octets) text ends) in
    record {
      reading = last;
      read = read-at octets text last ends;
      shaped = ap (λ (r : ScriptReading). r.shape) is.0;
      lines = stored-lines octets text opened shape stored last ends is;
      silent = λ is_held. gave is_held ∙ ap (λ (t : List ℕ). held ++ t) none ∙ append-nil held;
    }

-- A text of the card with the shape that was read, for the lines that were read.
pub ran : (Held : Type 0) (octets held mid : List ℕ) (shape : Shape) (stored text : List ℕ) (done : Done) → WasRead Held octets held mid shape stored
    → OfLines stored (λ lines. IsCardText shape lines text done) → IsPortsText octets text done
ran Held octets held mid shape stored text done was card =
    inr (record {
      reading = was.reading;
      read = was.read;
      card = subst (λ (s : Shape). IsCardText s was.reading.lines text done) (sym was.shaped) (card was.reading.lines was.lines);
    })

pub ran-text : (Held : Type 0) (octets held mid new : List ℕ) (shape : Shape) (stored : List ℕ) (done : Done) → Held → WasRead Held octets held mid shape stored
    → ((text : List ℕ) × (Held → new ≡ mid ++ text) × OfLines stored (λ lines. IsCardText shape lines text done))
    → Adds (λ text. IsPortsText octets text done) held new
ran-text Held octets held mid new shape stored done is_held was (text, gave, card) = (
  text,
  gave is_held ∙ ap (λ (t : List ℕ). t ++ text) (was.silent is_held),
  ran Held octets held mid shape stored text done was card,
)

pub ran-front : (Held : Type 0) (octets held mid new : List ℕ) (shape : Shape) (stored : List ℕ) → Held → WasRead Held octets held mid shape stored
    → OfLines stored (λ lines. Adds (IsFront (IsCardText shape lines)) mid new) → Adds (IsFront (IsPortsText octets)) held new
ran-front Held octets held mid new shape stored is_held was fronts =
    let front = fronts was.reading.lines was.lines in
    let whole = front.2 in (
      front.0,
      front.1 ∙ ap (λ (t : List ℕ). t ++ front.0) (was.silent is_held),
      (
        whole.0,
        whole.1,
        inr (record {
          reading = was.reading;
          read = was.read;
          card = subst (λ (s : Shape). IsCardText s was.reading.lines (front.0 ++ whole.0) whole.1) (sym was.shaped) whole.2;
        }),
      ),
    )

-- The whole input was read.
pub ran-left : (Held : Type 0) (octets left held mid new : List ℕ) (shape : Shape) (stored : List ℕ) (done : Done) (most : ℕ) → left ≡ [] → WasRead Held octets held mid shape stored
    → ((text : List ℕ) × (Held → new ≡ mid ++ text) × OfLines stored (λ lines. IsCardText shape lines text done))
    → TakesEnough (λ needed. (text : List ℕ) × IsPortsText needed text done) most octets left
ran-left Held octets left held mid new shape stored done most none was (text, gave, card) = (
  octets,
  [],
  sym (append-nil octets) ∙ ap (λ (xs : List ℕ). octets ++ xs) (sym none),
  omega arith,
  (text, ran Held octets held mid shape stored text done was card),
)
