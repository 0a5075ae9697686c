-- The octets that a reading stores are its lines, and no octet of a line is a line feed.
use Rattle.std.proofs.Common.{◌≡◌, ℕ, zero, suc, ◌+◌, ◌-◌, ◌<◌, ◌==◌, Bool, true, false, List, [], ◌∷◌, ◌++◌, length, take, Option, Some, None, refl, ap, sym, subst, ◌∙◌, arith, append_assoc, if◌then◌else◌}
use Rattle.std.specs.Option.{MatchOption}
use Rattle.std.specs.Prelude.{All, MatchBool, slice_index}
use Rattle.std.proofs.lemmas.Bool.Decides.{nat_tests}
use Rattle.std.proofs.lemmas.List.{get_or-take, length-take}
use Rattle.std.proofs.lemmas.List.Elements.{All-cons, All-head, All-nil, All-tail}
use Rattle.text_io.specs.Answering.{EndsBy}
use Rattle.text_io.specs.Lines.{Line, begun_with, lines_of, line_content, without_return}
use Rattle.text_io.specs.Printing.{EndsAt}
use Rattle.text_io.specs.Words.{words_of, is_silent}
use Rattle.card_core.specs.Shapes.{shape_fault}
use Rattle.card_core.specs.declared.fault.CardFault.{CardFault}
use Rattle.card_core.specs.declared.shape.Shape.{Shape}
use Rattle.text_card.specs.CardFaults.{no_card, shape_fault_line}
use Rattle.text_card.specs.CardLine.{card_line_shape}
use Rattle.text_script.specs.Dealing.{AreLinesOf, IsOneLine, text_of}
use Rattle.cmd_ports.specs.PortsText.{ScriptReading, unread, OpensOrEnds, ReadsWords, reading_rules}
use Rattle.cmd_ports.specs.inner.Reading.{IsStoredReading}

-- A line that is stored after others.
pub text-more : (lines : List (List ℕ)) (line : List ℕ) → text_of (lines ++ line ∷ []) ≡ (text_of lines ++ line) ++ 10 ∷ []
text-more [] line = refl
text-more (first ∷ lines) line =
    ap (λ (xs : List ℕ). first ++ 10 ∷ xs) (text-more lines line)
    ∙ sym (append_assoc first (10 ∷ (text_of lines ++ line)) (10 ∷ []))
    ∙ ap (λ (xs : List ℕ). xs ++ 10 ∷ []) (sym (append_assoc first (10 ∷ text_of lines) line))

-- No octet of these lines is a line feed.
abbrev AreFeedless : List Line → Type 0
AreFeedless lines = All (λ (line : Line). IsOneLine line.octets) lines

empty-line : IsOneLine []
empty-line k below = absurd (omega (arith, below))

one-more : (octet : ℕ) (octets : List ℕ) → (octet == 10) ≡ false → IsOneLine octets → IsOneLine (octet ∷ octets)
one-more octet octets other one zero below feed = let no : (octet == 10) ≡ false = other in absurd (grind (arith, nat_tests, no, feed))
one-more octet octets other one (suc k) below feed = one k (omega (arith, below)) feed

begun-feedless : (octet : ℕ) (lines : List Line) → (octet == 10) ≡ false → AreFeedless lines → AreFeedless (begun_with octet lines)
begun-feedless octet [] other are =
    All-cons (λ (line : Line). IsOneLine line.octets) (record { octets = octet ∷ []; ended = false }) [] (one-more octet [] other empty-line)
    (All-nil (λ (line : Line). IsOneLine line.octets))
begun-feedless octet (line ∷ lines) other are =
    let P : Line → Type 0 = λ line. IsOneLine line.octets in
    All-cons P (record { octets = octet ∷ line.octets; ended = line.ended }) lines (one-more octet line.octets other (All-head P line lines are))
    (All-tail P line lines are)

cut-feedless : (octet : ℕ) (lines : List Line) (feed : Bool) → (octet == 10) ≡ feed → AreFeedless lines
    → AreFeedless (if feed then (record { octets = []; ended = true }) ∷ lines else begun_with octet lines)
cut-feedless octet lines true is are =
    All-cons (λ (line : Line). IsOneLine line.octets) (record { octets = []; ended = true }) lines empty-line are
cut-feedless octet lines false is are = begun-feedless octet lines is are

lines-feedless : (octets : List ℕ) → AreFeedless (lines_of octets)
lines-feedless [] = All-nil (λ (line : Line). IsOneLine line.octets)
lines-feedless (octet ∷ octets) = cut-feedless octet (lines_of octets) (octet == 10) refl (lines-feedless octets)

-- Nor is one of what a line says.
taken-feedless : (count : ℕ) (octets : List ℕ) → IsOneLine octets → IsOneLine (take count octets)
taken-feedless count octets one k below feed =
    let sized = length-take count octets in
    let within : k < count = omega (arith, below, sized) in
    one k (omega (arith, below, sized)) (sym (get_or-take count octets k 0 within) ∙ feed)

without-feedless : (octets : List ℕ) (returns : Bool) → IsOneLine octets → IsOneLine (if returns then take (length octets - 1) octets else octets)
without-feedless octets true one = taken-feedless (length octets - 1) octets one
without-feedless octets false one = one

line_content-feedless : (octets : List ℕ) (ended : Bool) → IsOneLine octets → IsOneLine (if ended then without_return octets else octets)
line_content-feedless octets true one = without-feedless octets (slice_index octets (length octets - 1) == 13) one
line_content-feedless octets false one = one

-- Each line of a reading is one that was read.
all-more : (lines : List (List ℕ)) (line : List ℕ) → All IsOneLine lines → IsOneLine line → All IsOneLine (lines ++ line ∷ [])
all-more [] line all one = All-cons IsOneLine line [] one (All-nil IsOneLine)
all-more (first ∷ lines) line all one =
    All-cons IsOneLine first (lines ++ line ∷ []) (All-head IsOneLine first lines all) (all-more lines line (All-tail IsOneLine first lines all) one)

kept : (reading next : ScriptReading) (found : Option ScriptReading) → found ≡ Some next → found ≡ Some reading → All IsOneLine reading.lines → All IsOneLine next.lines
kept reading next found goes is all =
    let same : Some reading ≡ Some next = sym is ∙ goes in
    let alike : reading ≡ next = cc in
    subst (λ (r : ScriptReading). All IsOneLine r.lines) alike all

shaped-lines : (reading next : ScriptReading) (shape : Shape) (fault : Option CardFault) (text : List ℕ) → All IsOneLine reading.lines
    → MatchOption fault ((text ≡ []) × (Some next ≡ Some (record reading { opened = true; shape = shape }))) (λ f. EndsBy (shape_fault_line f) text (Some next))
    → All IsOneLine next.lines
shaped-lines reading next shape None text all printed =
    kept (record reading { opened = true; shape = shape }) next (Some next) refl printed.1 all
shaped-lines reading next shape (Some fault) text all printed = let ends : Some next ≡ None = printed.1 in cc

opened-lines : (reading next : ScriptReading) (shape : Option Shape) (text : List ℕ) → All IsOneLine reading.lines
    → MatchOption shape (EndsBy no_card text (Some next)) (λ s. OpensOrEnds reading s text (Some next)) → All IsOneLine next.lines
opened-lines reading next None text all printed = let ends : Some next ≡ None = printed.1 in cc
opened-lines reading next (Some shape) text all printed = shaped-lines reading next shape (shape_fault shape) text all printed

words-lines : (opened : Bool) (reading next : ScriptReading) (line text : List ℕ) → IsOneLine line → All IsOneLine reading.lines
    → ReadsWords opened reading line text (Some next) → All IsOneLine next.lines
words-lines false reading next line text one all printed = opened-lines reading next (card_line_shape (words_of line)) text all printed
words-lines true reading next line text one all printed =
    kept (record reading { lines = reading.lines ++ line ∷ [] }) next (Some next) refl printed.1 (all-more reading.lines line all one)

step-lines : (silent : Bool) (reading next : ScriptReading) (line text : List ℕ) → IsOneLine line → All IsOneLine reading.lines
    → MatchBool silent ((text ≡ []) × (Some next ≡ Some reading)) (ReadsWords reading.opened reading line text (Some next)) → All IsOneLine next.lines
step-lines true reading next line text one all printed = kept reading next (Some next) refl printed.1 all
step-lines false reading next line text one all printed = words-lines reading.opened reading next line text one all printed

read-lines : (lines : List Line) (met : ℕ) (reading last : ScriptReading) (text : List ℕ) → AreFeedless lines → All IsOneLine reading.lines
    → EndsAt reading_rules met reading lines text last → All IsOneLine last.lines
read-lines [] met reading last text feedless all ends = subst (λ (r : ScriptReading). All IsOneLine r.lines) (sym ends.0) all
read-lines (line ∷ lines) met reading last text feedless all (over, (here, more, next, cut, step, later)) =
    let P : Line → Type 0 = λ line. IsOneLine line.octets in
    let one = line_content-feedless line.octets line.ended (All-head P line lines feedless) in
    read-lines lines (met + 1) next last more (All-tail P line lines feedless)
    (step-lines (is_silent (words_of (line_content line))) reading next (line_content line) here one all step) later

-- The octets that are stored at the end of a reading are the text of its lines.
pub stored-lines : (octets text : List ℕ) (opened : Bool) (shape : Shape) (stored : List ℕ) (last : ScriptReading)
    → EndsAt reading_rules 0 unread (lines_of octets) text last → IsStoredReading opened shape stored last → AreLinesOf stored last.lines
stored-lines octets text opened shape stored last ends is = record {
  text = is.1;
  each = read-lines (lines_of octets) 0 unread last text (lines-feedless octets) (All-nil IsOneLine) ends;
}
