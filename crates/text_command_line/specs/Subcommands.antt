-- Commands whose subcommands take no arguments, and the rows of a table that their words name.
use Rattle.std.specs.Prelude.{◌≡◌, ◌⊎◌, Bool, List, [], ◌∷◌, Option, Some, None, MatchOption, IsSomeAnd, fold, find, codes, map, option_map, true}
use Rattle.std.specs.Str.{bytes_eq}
use Rattle.clap.specs.Walk.{Text}
use Rattle.clap.specs.Simple.{App, new_app, new_shape, on_top, with_subcommand}
use Rattle.text_command_line.specs.declared.subcommands.Program.{Program}
use Rattle.text_command_line.specs.declared.subcommands.Row.{Row}

-- The command with one more subcommand of this name, which takes no arguments.
unfoldable pub with_name : App → Text → App
with_name app name = with_subcommand app (new_shape name)

-- The command without its subcommands. It has a version, and words without a subcommand may be an error.
abbrev pub bare_app : Text → Bool → App
bare_app name wants_one = on_top (λ top. record top { has_version = true; subcommand_required = wants_one }) (new_app name)

-- The command with subcommands of these names, and no option except those for help, which every command has, and for the version.
unfoldable pub app_with : Text → Bool → List Text → App
app_with name wants_one names = fold with_name (bare_app name wants_one) names

-- The names in a table.
abbrev pub row_names : {Meaning : Type 0} → List (Text × Meaning) → List Text
row_names table = map (λ row. row.0) table

-- What the row with this name means.
abbrev pub meaning_in : {Meaning : Type 0} → List (Text × Meaning) → Text → Option Meaning
meaning_in table name = option_map (λ row. row.1) (find (λ row. bytes_eq row.0 name) table)

-- No word is left, except possibly `--`, which ends the options.
abbrev pub IsEnd : List Text → Type 0
IsEnd words = (words ≡ []) ⊎ (words ≡ codes "--" ∷ [])

-- The words are the name of a row that means this, and nothing more.
abbrev pub NamesRow : {Meaning : Type 0} → List (Text × Meaning) → List Text → Meaning → Type 0
NamesRow table words meaning =
    (name : Text) × (rest : List Text) × (words ≡ name ∷ rest) × (meaning_in table name ≡ Some meaning) × IsEnd rest

-- The words are the name of a row that means this, and nothing more. Or no word is left, and there is no row.
abbrev pub NamesIn : {Meaning : Type 0} → List (Text × Meaning) → List Text → Option Meaning → Type 0
NamesIn table words None = IsEnd words
NamesIn table words (Some meaning) = NamesRow table words meaning

-- This is what the row of the subcommand with this name means, or None if there is no name.
abbrev pub IsRowIn : {Meaning : Type 0} → List (Text × Meaning) → Option Text → Option Meaning → Type 0
IsRowIn table name found =
    MatchOption name (found ≡ None) (λ text. IsSomeAnd found (λ meaning. meaning_in table text ≡ Some meaning))

-- The table of these rows.
abbrev pub table_of_rows : {Meaning : Type 0} → List (Row Meaning) → List (Text × Meaning)
table_of_rows rows = map (λ row. (row.name.now, row.means)) rows

-- The command of a program with subcommands of these rows.
abbrev pub app_of_rows : {Meaning : Type 0} → Program → List (Row Meaning) → App
app_of_rows program rows = app_with program.name.now program.wants_one (row_names (table_of_rows rows))
