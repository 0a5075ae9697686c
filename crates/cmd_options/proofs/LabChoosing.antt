-- What the words of `upc-lab` ask for.
use Rattle.std.proofs.Common.{if◌then◌else◌, drop, ◌≡◌, ◌∙◌, Bool, ap, codes, cond, find, map, refl, subst, sym, true, false, inl, inr, List, [], ◌∷◌, ◌++◌, Option, Some, None, IfErr, IfOk, IsOkAnd, IsSome, IsSomeAnd, Ok, Err, option_map, Result}
use Rattle.std.specs.Str.{bytes_eq}
use Rattle.clap.specs.Walk.{Text, is_empty}
use Rattle.clap.proofs.OnLiterals.{clap_on_literals}
use Rattle.text_command_line.specs.CommandLines.{kinds_in}
use Rattle.text_command_line.specs.PlainCommands.{is_plain_command}
use Rattle.text_command_line.specs.Stopping.{StopsAt}
use Rattle.text_command_line.specs.Subcommands.{IsEnd, NamesIn, NamesRow, app_with, meaning_in, with_name}
use Rattle.text_command_line.specs.declared.stop.Stop.{Stop}
use Rattle.text_command_line.specs.declared.stop.Stop.TheVariants.{NoMemory}
use Rattle.cmd_options.specs.LabWords.{AsksLab, IsLabStop, IsStopOf, NamesLab, begun_by, lab_app, lab_faults_in, lab_subcommands, lab_table, own_subcommands, with_options_named}
use Rattle.cmd_options.specs.inner.LabAnswers.{LabAnswers}
use Rattle.cmd_options.specs.declared.choice.Asked.{Asked}
use Rattle.cmd_options.specs.declared.choice.Asked.TheVariants.{Plain, Why, Cells, Fit, Police, Differ, Forward, Explain}
use Rattle.cmd_options.specs.declared.choice.Subcommand.{Subcommand}
use Rattle.cmd_options.specs.declared.help_words.WithOptions.{WithOptions}
use Rattle.cmd_options.specs.declared.help_words.WithOptions.TheVariants as own

pub lab_is_plain : is_plain_command lab_app lab_table ≡ true
unfolding lab_app app_with with_name kinds_in clap_on_literals
lab_is_plain = refl

-- Without a name there is an error.
nothing_refused : is_empty (lab_faults_in []) ≡ false
unfolding lab_app app_with with_name kinds_in clap_on_literals
nothing_refused = refl

mark_refused : is_empty (lab_faults_in (codes "--" ∷ [])) ≡ false
unfolding lab_app app_with with_name kinds_in clap_on_literals
mark_refused = refl

end_refused : (given : List Text) → IsEnd given → lab_faults_in given ≡ [] → ⊥
end_refused given (inl is) none =
    let bad : true ≡ false = sym (ap is_empty (ap lab_faults_in (sym is) ∙ none)) ∙ nothing_refused in cc
end_refused given (inr is) none =
    let bad : true ≡ false = sym (ap is_empty (ap lab_faults_in (sym is) ∙ none)) ∙ mark_refused in cc

-- ---- the rows of the table

abbrev lab_named : Text → Option Subcommand
lab_named = meaning_in lab_subcommands

abbrev own_rows : List (Text × Option Subcommand)
own_rows = map (λ row. (row.0, None)) own_subcommands

abbrev no_meaning : Option (Option Subcommand)
no_meaning = None

-- The first, or if there is none the second.
abbrev or_other : {X : Type 0} → Option X → Option X → Option X
or_other (Some x) other = Some x
or_other None other = other

-- The row with this name is one without options, or one of the others.
joined : (rows : List (Text × Subcommand)) (more : List (Text × Option Subcommand)) (name : Text)
    → meaning_in (map (λ row. (row.0, Some row.1)) rows ++ more) name ≡ or_other (option_map Some (meaning_in rows name)) (meaning_in more name)
joined [] more name = refl
joined (row ∷ rows) more name = go (bytes_eq row.0 name) (joined rows more name)
  where
    go : (same : Bool) → meaning_in (map (λ row. (row.0, Some row.1)) rows ++ more) name ≡ or_other (option_map Some (meaning_in rows name)) (meaning_in more name)
        → option_map (λ row. row.1) (cond same (Some (row.0, Some row.1)) (find (λ row. bytes_eq row.0 name) (map (λ row. (row.0, Some row.1)) rows ++ more)))
        ≡ or_other (option_map Some (option_map (λ row. row.1) (cond same (Some row) (find (λ row. bytes_eq row.0 name) rows)))) (meaning_in more name)
    go true e = refl
    go false e = e

abbrev own_meaning : Option (Text × WithOptions) → Option WithOptions
own_meaning row = option_map (λ row. row.1) row

abbrev meaning_of : Option (Text × Option Subcommand) → Option (Option Subcommand)
meaning_of row = option_map (λ row. row.1) row

abbrev row_without : Text → Text × Option Subcommand
row_without name = (name, None)

-- A name that is none of theirs is not in one of their rows.
not_in_rows : (rows : List (Text × WithOptions)) (name : Text) → meaning_in rows name ≡ None → meaning_in (map (λ row. (row.0, None)) rows) name ≡ no_meaning
not_in_rows [] name none = refl
not_in_rows (row ∷ rows) name none = go (bytes_eq row.0 name) none (not_in_rows rows name)
  where
    go : (same : Bool) → own_meaning (cond same (Some row) (find (λ row. bytes_eq row.0 name) rows)) ≡ None
        → (meaning_in rows name ≡ None → meaning_in (map (λ row. (row.0, None)) rows) name ≡ no_meaning)
        → meaning_of (cond same (Some (row_without row.0)) (find (λ row. bytes_eq row.0 name) (map (λ row. (row.0, None)) rows))) ≡ no_meaning
    go true none later = absurd (cc)
    go false none later = later none

no_own_row : (name : Text) → with_options_named name ≡ None → meaning_in own_rows name ≡ no_meaning
no_own_row name none = not_in_rows own_subcommands name none

plain_row : (found : Option Subcommand) (meaning : Option Subcommand) → or_other (option_map Some found) None ≡ Some meaning
    → (subcommand : Subcommand) × (meaning ≡ Some subcommand) × (found ≡ Some subcommand)
plain_row None meaning e = cc
plain_row (Some subcommand) meaning e = let same : Some subcommand ≡ meaning = cc in (subcommand, sym same, refl)

-- Words without an error that begin with no name of theirs name a subcommand without options.
abbrev IsPlainRow : List Text → Option (Option Subcommand) → Type 0
IsPlainRow words row = (subcommand : Subcommand) × (row ≡ Some (Some subcommand)) × NamesLab words subcommand

plain_at : (words : List Text) (row : Option (Option Subcommand)) → begun_by words ≡ None → lab_faults_in words ≡ [] → NamesIn lab_table words row → IsPlainRow words row
plain_at words None plain none h = absurd (end_refused words h none)
plain_at words (Some meaning) plain none h =
    let other = no_own_row h.0 (sym (ap begun_by h.2) ∙ plain) in
    let row = plain_row (lab_named h.0) meaning (ap (or_other (option_map Some (lab_named h.0))) (sym other) ∙ sym (joined lab_subcommands own_rows h.0) ∙ h.3) in
    (row.0, ap Some row.1, (h.0, h.1, h.2, row.2, h.4))

pub row_is_plain : (words : List Text) (row : Result (Option (Option Subcommand)) Stop) → begun_by words ≡ None → IfOk row (λ _. lab_faults_in words ≡ []) → IfOk row (NamesIn lab_table words)
    → IfOk row (λ row. IsSomeAnd row (λ meaning. IsSome meaning))
row_is_plain words (Ok row) plain none h =
    let it = plain_at words row plain none h in
    subst (λ row. IsSomeAnd row (λ meaning. IsSome meaning)) (sym it.1) refl
row_is_plain words (Err stop) plain none h = tt

-- The name of a subcommand without options is that of its row.
row_of : (words : List Text) (subcommand : Subcommand) → NamesLab words subcommand → NamesRow lab_table words (Some subcommand)
row_of words subcommand h =
    (h.0, h.1, h.2, joined lab_subcommands own_rows h.0 ∙ ap (λ found. or_other (option_map Some found) (meaning_in own_rows h.0)) h.3, h.4)

-- ---- the contract of `choose_plain`

pub answers : (words : List Text) (row : Result (Option (Option Subcommand)) Stop) (answer : Result Subcommand Stop) → begun_by words ≡ None → IfOk row (λ _. lab_faults_in words ≡ []) → IfOk row (NamesIn lab_table words)
    → IfErr row (StopsAt (lab_faults_in words)) → (lab_faults_in words ≡ [] → IfErr row (λ stop. stop ≡ NoMemory))
    → ((meaning : Option Subcommand) → NamesRow lab_table words meaning → IfErr row (λ stop. stop ≡ NoMemory))
    → IfOk row (λ row. IsOkAnd answer (λ subcommand. row ≡ Some (Some subcommand))) → IfErr row (λ stop. answer ≡ Err stop)
    → LabAnswers words answer
answers words (Ok row) (Ok subcommand) plain none h stopped taken granted named ended =
    let it = plain_at words row plain none h in
    let same : Some (Some it.0) ≡ Some (Some subcommand) = sym it.1 ∙ named in
    let is : it.0 ≡ subcommand = cc in
    record {
      asked = subst (NamesLab words) is it.2;
      faultless = none;
      stopped = tt;
      taken = λ _. tt;
      granted = λ _ _. tt;
    }
answers words (Ok row) (Err stop) plain none h stopped taken granted named ended = absurd named
answers words (Err stop) answer plain none h stopped taken granted named ended =
    subst (LabAnswers words) (sym ended) (record {
      asked = tt;
      faultless = tt;
      stopped = stopped;
      taken = taken;
      granted = λ subcommand it. granted (Some subcommand) (row_of words subcommand it);
    })

-- ---- the contract of `choose`

-- What words that begin with no name of a subcommand with options ask for is one without.
pub granted_plain : (words : List Text) (stop : Stop) (asked : Asked) → begun_by words ≡ None
    → ((subcommand : Subcommand) → NamesLab words subcommand → stop ≡ NoMemory) → AsksLab words asked → stop ≡ NoMemory
granted_plain words stop (Plain subcommand) plain granted h = granted subcommand h.1
granted_plain words stop (Why options) plain granted h = let bad : Some own.Why ≡ None = sym h.0 ∙ plain in cc
granted_plain words stop (Cells options) plain granted h = let bad : Some own.Cells ≡ None = sym h.0 ∙ plain in cc
granted_plain words stop (Fit options) plain granted h = let bad : Some own.Fit ≡ None = sym h.0 ∙ plain in cc
granted_plain words stop (Police options) plain granted h = let bad : Some own.Police ≡ None = sym h.0 ∙ plain in cc
granted_plain words stop (Forward options) plain granted h = let bad : Some own.Forward ≡ None = sym h.0 ∙ plain in cc
granted_plain words stop (Differ options) plain granted h = let bad : Some own.Differ ≡ None = sym h.0 ∙ plain in cc
granted_plain words stop (Explain options) plain granted h = let bad : Some own.Explain ≡ None = sym h.0 ∙ plain in cc

-- A stop that the words may give as a subcommand without options is one that they may give.
pub stopped_plain : (words : List Text) (stop : Stop) → begun_by words ≡ None → StopsAt (lab_faults_in words) stop → IsLabStop words stop
stopped_plain words stop plain stops = subst (λ it. IsStopOf it words stop) (sym plain) stops
