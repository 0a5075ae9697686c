-- The output of `upc-lab links`.
use Rattle.std.specs.Prelude.{◌≡◌, ◌+◌, ◌/◌, ◌%◌, ◌==◌, if◌then◌else◌, ℕ, List, [], ◌∷◌, ◌++◌, codes, decimal, drop, flat_map, Option, Some, Result}
use Rattle.captures.specs.Frames.{format_start}
use Rattle.captures.specs.Moments.{nearest_tick}
use Rattle.captures.specs.Opening.{file_opening}
use Rattle.captures.specs.Reading.{IsReading}
use Rattle.captures.specs.declared.fault.Fault.{Fault}
use Rattle.captures.specs.declared.format.Format.{Format}
use Rattle.captures.specs.declared.link.Link.{Link}
use Rattle.captures.specs.declared.opening.Opening.{Opening}
use Rattle.captures.specs.declared.opening.Opening.TheVariants.{Opened, Undecided, Refused}
use Rattle.captures.specs.declared.reader.SkippedBlock.{SkippedBlock}
use Rattle.captures.specs.declared.reader.Record.{Record}
use Rattle.captures_text.specs.CaptureFaults.{file_fault_line}
use Rattle.captures_text.specs.CaptureText.{done_at, short_fault}
use Rattle.captures_text.specs.LinkWords.{link_word}
use Rattle.captures_text.specs.RunLines.{closing_lines}
use Rattle.captures_text.specs.Tallies.{first_record_text}
use Rattle.captures_text.specs.declared.tally.CountAndFirst.{CountAndFirst}
use Rattle.text_io.specs.declared.ending.Done.{Done}
use Rattle.text_io.specs.declared.ending.Done.TheVariants.{Ended}
use Rattle.cmd_fit.specs.LinkTallies.{LinksState, links_after, no_links}
use Rattle.cmd_fit.specs.declared.link_tally.LinkTally.{LinkTally}

-- The last decimal digit of a number.
abbrev pub last_digit : ℕ → ℕ
last_digit number = 48 + number % 10

-- The last nine decimal digits of a number.
abbrev pub nine_digits : ℕ → List ℕ
nine_digits number =
    last_digit (number / 100000000) ∷ last_digit (number / 10000000) ∷ last_digit (number / 1000000)
    ∷ last_digit (number / 100000) ∷ last_digit (number / 10000) ∷ last_digit (number / 1000)
    ∷ last_digit (number / 100) ∷ last_digit (number / 10) ∷ last_digit number ∷ []

-- The seconds of this many nanoseconds, with nine decimal places.
abbrev pub seconds_word : ℕ → List ℕ
seconds_word nanoseconds = decimal (nanoseconds / 1000000000) ++ (codes "." ++ nine_digits (nanoseconds % 1000000000))

-- A time in seconds since 1970, to the nearest nanosecond.
abbrev pub time_word : ℕ → List ℕ
time_word time = seconds_word (nearest_tick time 1)

-- The columns of the times of a link, each with a tab after it.
abbrev pub time_columns : LinkTally → List ℕ
time_columns tally = (time_word tally.first ++ codes "\t") ++ (time_word tally.last ++ codes "\t")

-- The columns of a link after its word.
abbrev pub tally_columns : LinkTally → List ℕ
tally_columns tally = (decimal tally.cells ++ codes "\t") ++ (time_columns tally ++ (decimal tally.losses ++ codes "\n"))

-- The line of a link of which this is known.
abbrev pub link_line : Link × LinkTally → List ℕ
link_line row = (link_word row.0 ++ codes "\t") ++ tally_columns row.1

-- The heading.
abbrev pub links_heading : List ℕ
links_heading = codes "link\tcells\tfirst\tlast\tlosses\n"

-- The beginning of the comment about cells of links without a line.
abbrev pub left_out_count : CountAndFirst → List ℕ
left_out_count tally = codes "# " ++ (decimal tally.count ++ codes " of links after the first 4096")

-- The comment, if there are any.
abbrev pub left_out_line : CountAndFirst → List ℕ
left_out_line tally = if tally.count == 0 then [] else left_out_count tally ++ first_record_text tally

-- The text after records that led to this state. `ending` is the fault at which the reading ended, if there is one.
abbrev pub links_lines : LinksState → Option Fault → List ℕ
links_lines state ending =
    links_heading ++ (flat_map link_line state.rows ++ (left_out_line state.left_out ++ closing_lines state.summary ending))

-- From this state, after this many numbers, at this place, the text answers the octets, and the run then ends in this way.
abbrev pub IsLinksFrom : LinksState → Format → ℕ → ℕ → List ℕ → List ℕ → Done → Type 0
IsLinksFrom state format count at octets text done =
    (frames : List (Result Record SkippedBlock)) × (ending : Option Fault) × IsReading format count at octets frames ending
    × (text ≡ links_lines (links_after state frames) ending) × (done ≡ done_at ending)

-- The text answers a file with these octets. The opening says what the file is.
abbrev pub IsLinksOpened : List ℕ → Opening → List ℕ → Done → Type 0
IsLinksOpened octets (Opened format) text done = IsLinksFrom no_links format 0 (format_start format) (drop (format_start format) octets) text done
IsLinksOpened octets Undecided text done = (text ≡ links_lines no_links (Some (short_fault octets))) × (done ≡ Ended)
IsLinksOpened octets (Refused fault) text done = (text ≡ file_fault_line fault) × (done ≡ Ended)

-- The text answers a file with these octets, and the run then ends in this way.
abbrev pub IsLinksText : List ℕ → List ℕ → Done → Type 0
IsLinksText octets text done = IsLinksOpened octets (file_opening octets) text done

-- A file has exactly one text.
abbrev pub CapturesHaveOneLinksText : Type 0
CapturesHaveOneLinksText = (octets : List ℕ)
    → ((text : List ℕ) × (done : Done) × IsLinksText octets text done)
    × ((one other : List ℕ) (ends other_ends : Done) → IsLinksText octets one ends → IsLinksText octets other other_ends → (one ≡ other) × (ends ≡ other_ends))
