-- What the loops of the annotated listing keep.
use Rattle.std.proofs.Common.{◌≡◌, ◌≢◌, ℕ, ◌+◌, ◌<◌, true, false, List, [], ◌∷◌, ◌++◌, drop, take, length, get_or, refl, sym, ap, subst, ◌∙◌, arith, append-nil, append_assoc, take-append-drop}
use Rattle.std.proofs.lemmas.List.{drop_all, drop_more, get_or-take, length-take, take_more}
use Rattle.text_io.specs.Lines.{Line, line_with_feed, lines_of}
use Rattle.text_io.proofs.LinesLemmas.{NoFeed, lines-at_feed, lines-of_rest}
use Rattle.cmd_rules.specs.AsmText.{lines_with}

-- The text begins with this line, and the rest follows.
abbrev pub IsFirst : List ℕ → List ℕ → List ℕ → Type 0
IsFirst text first rest = (line : Line) × (lines_of text ≡ line ∷ lines_of rest) × (first ≡ line_with_feed line)

pub first_ended : (text : List ℕ) (at : ℕ) → at < length text → get_or text at 0 ≡ 10 → ((k : ℕ) → k < at → get_or text k 0 ≢ 10) → IsFirst text (take (at + 1) text) (drop (at + 1) text)
first_ended text at lt feed before =
    let front = take at text in
    let free : NoFeed front = λ k below.
    let near : k < at = omega (arith, length-take at text, below) in
    subst (λ (o : ℕ). o ≢ 10) (sym (get_or-take at text k 0 near)) (before k near) in
    let cut : text ≡ front ++ 10 ∷ drop (at + 1) text =
    sym (take-append-drop at text) ∙ ap (λ (r : List ℕ). front ++ r) (drop_more text at 0 lt ∙ ap (λ (o : ℕ). o ∷ drop (at + 1) text) feed) in (
      record { octets = front; ended = true },
      ap lines_of cut ∙ lines-at_feed front (drop (at + 1) text) free,
      take_more text at 0 lt ∙ ap (λ (o : ℕ). front ++ o ∷ []) feed,
    )

pub first_last : (text : List ℕ) → 0 < length text → ((k : ℕ) → k < length text → get_or text k 0 ≢ 10) → IsFirst text text (drop (length text) text)
first_last text some free = (
  record { octets = text; ended = false },
  lines-of_rest text some free ∙ ap (λ (r : List ℕ). record { octets = text; ended = false } ∷ lines_of r) (sym (drop_all (length text) text (omega arith))),
  refl,
)

-- ---- lines from a place on

pub lines_more : (put : ℕ → List ℕ) (place : ℕ) (left line rest old mid new all : List ℕ) → IsFirst left line rest → old ++ lines_with put place (lines_of left) ≡ all
    → mid ≡ old ++ put place → new ≡ mid ++ line → new ++ lines_with put (place + 1) (lines_of rest) ≡ all
lines_more put place left line rest old mid new all first so e f =
    let after = lines_with put (place + 1) (lines_of rest) in
    let cut : lines_with put place (lines_of left) ≡ put place ++ (line ++ after) =
    ap (lines_with put place) first.1 ∙ ap (λ (l : List ℕ). put place ++ (l ++ after)) (sym first.2) in
    ap (λ (t : List ℕ). t ++ after) (f ∙ ap (λ (t : List ℕ). t ++ line) e ∙ append_assoc old (put place) line)
    ∙ append_assoc old (put place ++ line) after ∙ ap (λ (t : List ℕ). old ++ t) (append_assoc (put place) line after)
    ∙ ap (λ (t : List ℕ). old ++ t) (sym cut) ∙ so

pub lines_done : (put : ℕ → List ℕ) (place : ℕ) (left old all : List ℕ) → lines_of left ≡ [] → old ++ lines_with put place (lines_of left) ≡ all → old ≡ all
lines_done put place left old all none so = sym (append-nil old) ∙ ap (λ (ls : List Line). old ++ lines_with put place ls) (sym none) ∙ so
