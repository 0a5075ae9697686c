-- The lines before the first cell line are answered one after another.
use Rattle.std.proofs.Common.{◌≡◌, ℕ, true, false, List, [], ◌∷◌, ◌++◌, refl, ap, sym, subst, ◌∙◌, if◌then◌else◌}
use Rattle.std.proofs.lemmas.List.{append-nil, append_assoc}
use Rattle.gen_arena.specs.declared.id.Id.{Id}
use Rattle.line_record.specs.Tally.{nothing}
use Rattle.line_record.specs.declared.tally.Tally.{Tally}
use Rattle.upc_cell.specs.declared.side.Side.{Side}
use Rattle.text_io.specs.Devices.{Adds}
use Rattle.text_io.specs.Words.{words_of}
use Rattle.cmd_ports.specs.ScriptAnswers.{AnswersEach, AnswersScript}
use Rattle.text_script.specs.Dealing.{AreLinesOf, is_cell_line}
use Rattle.cmd_ports.specs.inner.FirstLines.{from_first_cell}
use Rattle.cmd_ports.specs.inner.DeskTexts.{MayObeyLine}
use Rattle.cmd_ports.specs.inner.Script.{AnswersFirst, AnswersLater, OfLines}
use Rattle.text_script.proofs.Public.{NoneBefore, starts_with, no_lines}
use Rattle.cmd_ports.proofs.CountsLemmas.{nothing-plus}
use Rattle.cmd_ports.proofs.DeskLemmas.{desk-answered, each-append}

-- The lines so far were answered, and none of them is a cell line.
pub record IsFirst (side : Side) (whole : List (List ℕ)) (rest : List ℕ) (names names' : List Id) (text : List ℕ) : Type 0 where
  pub first : List (List ℕ)
  pub left : List (List ℕ)
  pub all : whole ≡ first ++ left
  pub are : AreLinesOf rest left
  pub same : from_first_cell left ≡ from_first_cell whole
  pub answers : (ids : List Id) → AnswersEach side ids first names text names' nothing

pub first-begun : (side : Side) (whole : List (List ℕ)) (octets : List ℕ) (names : List Id) → AreLinesOf octets whole
    → IsFirst side whole octets names names []
first-begun side whole octets names are = record {
  first = [];
  left = whole;
  all = refl;
  are = are;
  same = refl;
  answers = λ ids. (refl, refl, refl);
}

pub first-more : (side : Side) (whole : List (List ℕ)) (rest line later : List ℕ) (names mid names' : List Id) (text here : List ℕ)
    → rest ≡ line ++ 10 ∷ later → NoneBefore line rest → is_cell_line (words_of line) ≡ false → IsFirst side whole rest names mid text
    → MayObeyLine side (words_of line) mid here names' → IsFirst side whole later names names' (text ++ here)
first-more side whole rest line later names mid names' text here cut none other first printed =
    let next = starts_with line later rest first.left cut none first.are in
    let passed : from_first_cell (line ∷ next.others) ≡ from_first_cell next.others =
    ap (λ b. if b then line ∷ next.others else from_first_cell next.others) other in
    record {
      first = first.first ++ line ∷ [];
      left = next.others;
      all = first.all ∙ ap (λ (xs : List (List ℕ)). first.first ++ xs) next.all ∙ sym (append_assoc first.first (line ∷ []) next.others);
      are = next.left;
      same = sym passed ∙ ap from_first_cell (sym next.all) ∙ first.same;
      answers = λ ids. each-append side ids first.first (line ∷ []) names mid names' text here nothing nothing (first.answers ids)
          (here, [], names', nothing, nothing, sym (append-nil here), refl, desk-answered side ids (words_of line) mid here names' other printed, (refl, refl, refl));
    }

-- The first cell line was found, or no line is left.
first-done : (side : Side) (whole : List (List ℕ)) (rest : List ℕ) (names names' : List Id) (text : List ℕ) (first : IsFirst side whole rest names names' text)
    → first.left ≡ from_first_cell first.left → AnswersFirst side whole rest names names' text
first-done side whole rest names names' text first is =
    let same : first.left ≡ from_first_cell whole = is ∙ first.same in
    record {
      first = first.first;
      whole = first.all ∙ ap (λ (xs : List (List ℕ)). first.first ++ xs) same;
      left = subst (AreLinesOf rest) same first.are;
      answers = first.answers;
    }

pub first-found : (side : Side) (whole : List (List ℕ)) (rest line later : List ℕ) (names names' : List Id) (text : List ℕ)
    → rest ≡ line ++ 10 ∷ later → NoneBefore line rest → is_cell_line (words_of line) ≡ true → IsFirst side whole rest names names' text
    → AnswersFirst side whole rest names names' text
first-found side whole rest line later names names' text cut none cell first =
    let next = starts_with line later rest first.left cut none first.are in
    let found : from_first_cell (line ∷ next.others) ≡ line ∷ next.others =
    ap (λ b. if b then line ∷ next.others else from_first_cell next.others) cell in
    first-done side whole rest names names' text first (next.all ∙ sym found ∙ ap from_first_cell (sym next.all))

pub first-none : (side : Side) (whole : List (List ℕ)) (rest : List ℕ) (names names' : List Id) (text : List ℕ) → NoneBefore rest rest
    → IsFirst side whole rest names names' text → AnswersFirst side whole rest names names' text
first-none side whole rest names names' text none first =
    let empty = no_lines rest first.left none first.are in
    first-done side whole rest names names' text first (empty ∙ ap from_first_cell (sym empty))

-- The lines before the first cell line and those from there on are the whole script.
pub both-answered : (side : Side) (each : List (List ℕ)) (later : List ℕ) (names names' : List Id) (one other : List ℕ) (counts : Tally)
    → AnswersFirst side each later names names' one → OfLines later (λ rest. AnswersLater side rest names' other counts)
    → AnswersLater side each names (one ++ other) counts
both-answered side each later names names' one other counts first rest =
    let after = rest (from_first_cell each) first.left in (
      after.0,
      subst (λ (xs : List (List ℕ)). AnswersEach side after.0 xs names (one ++ other) after.0 counts) (sym first.whole)
          (subst (λ (t : Tally). AnswersEach side after.0 (first.first ++ from_first_cell each) names (one ++ other) after.0 t) (nothing-plus counts)
          (each-append side after.0 first.first (from_first_cell each) names names' after.0 one other nothing counts (first.answers after.0) after.1)),
    )

-- The lines before the first cell line are answered, and then those from there on.
pub script-answered : (side : Side) (octets later : List ℕ) (names names' : List Id) (start mid new : List ℕ) (counts : Tally) → names ≡ []
    → Adds (λ text. OfLines octets (λ each. AnswersFirst side each later names names' text)) start mid
    → Adds (λ text. OfLines later (λ rest. AnswersLater side rest names' text counts)) mid new
    → Adds (λ text. OfLines octets (λ each. AnswersScript side each text counts)) start new
script-answered side octets later names names' start mid new counts unnamed one rest = (
  one.0 ++ rest.0,
  rest.1 ∙ ap (λ (t : List ℕ). t ++ rest.0) one.1 ∙ append_assoc start one.0 rest.0,
  λ each are. subst (λ (names : List Id). AnswersLater side each names (one.0 ++ rest.0) counts) unnamed
      (both-answered side each later names names' one.0 rest.0 counts (one.2 each are) rest.2),
)
