-- What the value of an option spells.
use Rattle.std.specs.Prelude.{◌==◌, ◌^◌, if◌then◌else◌, ℕ, Bool, false, true, Option, Some, None, codes, length, option_and_then, option_map}
use Rattle.std.specs.Str.{bytes_eq}
use Rattle.clap.specs.Walk.{Text}
use Rattle.captures.specs.declared.packet_time.TimeSource.{TimeSource}
use Rattle.captures.specs.declared.packet_time.TimeSource.TheVariants as source
use Rattle.captures_text.specs.declared.line_choice.LineChoice.{LineChoice}
use Rattle.captures_text.specs.declared.line_choice.LineChoice.TheVariants as lines
use Rattle.cmd_size.specs.SizeWords.{duration_of}
use Rattle.upc_cell.specs.declared.side.Side.{Side}
use Rattle.upc_cell.specs.declared.side.Side.TheVariants.{Uni, Nni, UniPaths, NniPaths}
use Rattle.text_script.specs.ScriptWords.{number_up_to}

-- What a word names: `named` if it is the word `first`, `other` if it is the word `second`, and nothing if it is any other word.
abbrev pub one_of_two : {Named : Type 0} → Text → Named → Text → Named → Text → Option Named
one_of_two first named second other word = if bytes_eq word first then Some named else if bytes_eq word second then Some other else None

-- A number above 0.
abbrev pub positive : ℕ → Option ℕ
positive number = if number == 0 then None else Some number

-- The nanoseconds of a tick: a time of `upc-lab size` that isn't 0.
abbrev pub tick_of : Option Text → Option ℕ
tick_of text = option_and_then (λ word. option_and_then positive (duration_of word)) text

-- The nanoseconds of the tick that is asked for, if one is.
abbrev pub asked_tick_of : Option Text → Option (Option ℕ)
asked_tick_of None = Some None
asked_tick_of (Some word) = option_map Some (tick_of (Some word))

-- The nanoseconds of a span that is asked for, if one is: a time of `upc-lab size` that isn't 0.
abbrev pub every_of : Option Text → Option (Option ℕ)
every_of None = Some None
every_of (Some word) = option_map Some (option_and_then positive (duration_of word))

-- An increment that a bucket can have: 1 to 2^48 ticks.
abbrev pub fit_increment_of : Option Text → Option ℕ
fit_increment_of text = option_and_then (λ word. option_and_then positive (number_up_to (2 ^ 48) word)) text

-- The side that a word names. `paths` says whether connections are virtual paths.
abbrev pub side_named : Bool → Text → Option Side
side_named paths = one_of_two (codes "uni") (if paths then UniPaths else Uni) (codes "nni") (if paths then NniPaths else Nni)

-- Whether an option without a value is given. clap's text of it is `true` then.
abbrev pub is_given : Option Text → Bool
is_given None = false
is_given (Some text) = bytes_eq text (codes "true")

-- The side at which headers are read, and whether connections are virtual paths there.
abbrev pub fit_side_of : Option Text → Option Text → Option Side
fit_side_of text paths = option_and_then (side_named (is_given paths)) text

-- The cell loss priority (CLP) that a word names.
abbrev pub clp_named : Text → Option ℕ
clp_named = one_of_two (codes "0") 0 (codes "1") 1

-- The cell loss priority that is asked for, if one is.
abbrev pub asked_clp_of : Option Text → Option (Option ℕ)
asked_clp_of None = Some None
asked_clp_of (Some word) = option_map Some (clp_named word)

-- The name of a file that a word is, unless it is empty.
abbrev pub file_named : Text → Option Text
file_named word = if length word == 0 then None else Some word

-- The name of a file.
abbrev pub file_name_of : Option Text → Option Text
file_name_of text = option_and_then file_named text

-- The name of a file that is asked for, if one is.
abbrev pub asked_file_of : Option Text → Option (Option Text)
asked_file_of None = Some None
asked_file_of (Some word) = option_map Some (file_named word)

-- Which cells a word gives lines.
abbrev pub line_choice_named : Text → Option LineChoice
line_choice_named word =
    if bytes_eq word (codes "all") then Some lines.All
    else if bytes_eq word (codes "refused") then Some lines.NotPassed
    else if bytes_eq word (codes "none") then Some lines.Nothing
    else None

-- Which cells have lines.
abbrev pub line_choice_of : Option Text → Option LineChoice
line_choice_of text = option_and_then line_choice_named text

-- Whether all pairs of lines are asked for.
abbrev pub pairs_of : Option Text → Option Bool
pairs_of text = option_and_then (one_of_two (codes "changed") false (codes "all") true) text

-- The number of threads: 1 or 2.
abbrev pub threads_of : Option Text → Option ℕ
threads_of text = option_and_then (λ word. option_and_then positive (number_up_to 2 word)) text

-- Which time of a record counts.
abbrev pub timing_of : Option Text → Option TimeSource
timing_of text = option_and_then (one_of_two (codes "record") source.Record (codes "packet") source.Packet) text

-- Whether records without a judged cell go on.
abbrev pub others_of : Option Text → Option Bool
others_of text = option_and_then (one_of_two (codes "pass") true (codes "drop") false) text
