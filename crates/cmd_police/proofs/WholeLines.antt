-- A script without a line that names rules stays as it is.
use Rattle.std.proofs.Common.{◌≡◌, ℕ, ◌==◌, Bool, true, false, if◌then◌else◌, List, [], ◌∷◌, ◌++◌, codes, Option, Some, None, refl, sym, ap, subst, ◌∙◌}
use Rattle.std.proofs.lemmas.Bool.{eqb-true}
use Rattle.text_io.specs.Lines.{Line, begun_with, line_with_feed, lines_of}
use Rattle.cmd_setups.specs.RulesLines.{named_rules, names_in, rules_names, with_rules_name}
use Rattle.cmd_police.specs.SetupLaws.{ScriptsWithoutRulesStay}
use Rattle.cmd_police.specs.SetupPrograms.{HasPrograms, HasProgramsIn}
use Rattle.cmd_police.proofs.Completing.{ReplacesAt}

-- The octets of lines.
abbrev all_whole : List Line → List ℕ
all_whole [] = []
all_whole (line ∷ lines) = line_with_feed line ++ all_whole lines

-- ---- the octets of the lines of a text are those of the text

begun_line : (octet : ℕ) (octets rest : List ℕ) (ended : Bool)
    → (if ended then (octet ∷ octets) ++ codes "\n" else octet ∷ octets) ++ rest ≡ octet ∷ ((if ended then octets ++ codes "\n" else octets) ++ rest)
begun_line octet octets rest true = refl
begun_line octet octets rest false = refl

begun_whole : (octet : ℕ) (lines : List Line) → all_whole (begun_with octet lines) ≡ octet ∷ all_whole lines
begun_whole octet [] = refl
begun_whole octet (line ∷ lines) = begun_line octet line.octets (all_whole lines) line.ended

whole_by : (is : Bool) (octet : ℕ) (octets : List ℕ) → (octet == 10) ≡ is → all_whole (lines_of octets) ≡ octets
    → all_whole (if is then (record { octets = []; ended = true }) ∷ lines_of octets else begun_with octet (lines_of octets)) ≡ octet ∷ octets
whole_by true octet octets e same = ap (λ (o : ℕ). o ∷ all_whole (lines_of octets)) (sym (eqb-true octet 10 e)) ∙ ap (λ (os : List ℕ). octet ∷ os) same
whole_by false octet octets e same = begun_whole octet (lines_of octets) ∙ ap (λ (os : List ℕ). octet ∷ os) same

pub whole_text : (octets : List ℕ) → all_whole (lines_of octets) ≡ octets
whole_text [] = refl
whole_text (octet ∷ octets) = whole_by (octet == 10) octet octets refl (whole_text octets)

-- ---- lines that name no rules

-- A line that adds no name has none, and the others have none either.
no_name : (name : Option (List ℕ)) (names : List (List ℕ)) → with_rules_name name names ≡ [] → (name ≡ None) × (names ≡ [])
no_name None names e = (refl, e)
no_name (Some name) names e = cc

stays : (lines : List Line) (texts : List (List ℕ)) → names_in lines ≡ [] → HasProgramsIn lines texts (all_whole lines)
stays [] texts none = refl
stays (line ∷ lines) texts none =
    let both = no_name (named_rules line) (names_in lines) none in
    subst (λ (n : Option (List ℕ)). ReplacesAt n line lines texts (line_with_feed line ++ all_whole lines)) (sym both.0)
    (all_whole lines, stays lines texts both.1, refl)

stays_alone : (lines : List Line) (texts : List (List ℕ)) (expanded : List ℕ) → names_in lines ≡ [] → HasProgramsIn lines texts expanded → expanded ≡ all_whole lines
stays_alone [] texts expanded none is = is
stays_alone (line ∷ lines) texts expanded none is =
    let both = no_name (named_rules line) (names_in lines) none in
    let here = subst (λ (n : Option (List ℕ)). ReplacesAt n line lines texts expanded) both.0 is in
    here.2 ∙ ap (λ (t : List ℕ). line_with_feed line ++ t) (stays_alone lines texts here.0 both.1 here.1)

pub stays_itself : (script : List ℕ) (texts : List (List ℕ)) → rules_names script ≡ [] → HasPrograms script texts script
stays_itself script texts none = subst (HasPrograms script texts) (whole_text script) (stays (lines_of script) texts none)

pub without_rules : ScriptsWithoutRulesStay
without_rules script texts none = record {
  itself = stays_itself script texts none;
  only = λ expanded is. stays_alone (lines_of script) texts expanded none is ∙ whole_text script;
}
