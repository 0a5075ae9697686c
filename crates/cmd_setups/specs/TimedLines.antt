-- The lines of a setup script that are carried out while cells arrive: `at TIME COMMAND`, and the lines after it up to the next such line.
use Rattle.std.specs.Prelude.{ℕ, ◌+◌, ◌/◌, ◌%◌, ◌==◌, nat_lt, Bool, true, false, ◌||◌, if◌then◌else◌, List, [], ◌∷◌, ◌++◌, codes, decimal, drop, flat_map, replicate, Option, Some, None, suc}
use Rattle.std.specs.Str.{bytes_eq}
use Rattle.cmd_explain_script.specs.Places.{place_words}
use Rattle.text_io.specs.Lines.{Line, line_content, line_with_feed, lines_of}
use Rattle.cmd_size.specs.SizeWords.{duration_of}
use Rattle.text_io.specs.Words.{is_blank, is_silent, words_of}
use Rattle.text_words.specs.FaultLines.{line}

-- ---- the time of a line

-- The time that these words name, in nanoseconds: the word `at`, a time as `upc-lab size` reads it, and at least one word more.
abbrev pub time_named : List (List ℕ) → Option ℕ
time_named (word ∷ time ∷ other ∷ words) = if bytes_eq word (codes "at") then duration_of time else None
time_named _ = None

-- The time that a line of this content names.
unfoldable pub own_time : List ℕ → Option ℕ
own_time content = time_named (words_of content)

-- The time at which a line is carried out: its own, or that of the line before it. Lines before the first time are
-- carried out before all cells.
abbrev pub later_time : Option ℕ → Option ℕ → Option ℕ
later_time None before = before
later_time (Some time) before = Some time

-- The times of lines, in order, after a line of this time.
abbrev pub times_after : Option ℕ → List Line → List (Option ℕ)
times_after before [] = []
times_after before (first ∷ lines) =
    later_time (own_time (line_content first)) before ∷ times_after (later_time (own_time (line_content first)) before) lines

-- The times of a script's lines.
abbrev pub line_times : List ℕ → List (Option ℕ)
line_times script = times_after None (lines_of script)

-- Whether a line names a time before that of a line before it.
abbrev pub falls_below : Option ℕ → Option ℕ → Bool
falls_below (Some time) (Some before) = nat_lt time before
falls_below _ _ = false

-- The number of the first of these lines whose time falls, after `met` lines, the last of which has this time.
abbrev pub falls_after : ℕ → Option ℕ → List Line → Option ℕ
falls_after met before [] = None
falls_after met before (first ∷ lines) =
    if falls_below (own_time (line_content first)) before then Some (suc met)
    else falls_after (suc met) (later_time (own_time (line_content first)) before) lines

-- The number of the first line of a script whose time is before one that an earlier line names.
abbrev pub falling_line : List ℕ → Option ℕ
falling_line script = falls_after 0 None (lines_of script)

-- The explanation of a time that falls on the line of this number.
abbrev pub falling_reason : ℕ → List ℕ
falling_reason number = place_words number None ++ line (codes "this time is before that of an earlier line; the times of a setup don't fall")

-- The answer to a script with such a line: its fault line, and the explanation.
abbrev pub falling_text : ℕ → List ℕ
falling_text number = line (codes "fault at 1 Falls " ++ decimal number) ++ falling_reason number

-- ---- the script without its times

-- The number of blanks at the beginning.
abbrev pub blanks_before : List ℕ → ℕ
blanks_before [] = 0
blanks_before (octet ∷ octets) = if is_blank octet then suc (blanks_before octets) else 0

-- The number of octets up to the first blank.
abbrev pub octets_of_word : List ℕ → ℕ
octets_of_word [] = 0
octets_of_word (octet ∷ octets) = if is_blank octet then 0 else suc (octets_of_word octets)

-- The number of octets up to the end of the first word.
abbrev pub first_word_end : List ℕ → ℕ
first_word_end octets = blanks_before octets + octets_of_word (drop (blanks_before octets) octets)

-- The number of octets up to the end of the second word.
abbrev pub second_word_end : List ℕ → ℕ
second_word_end octets = first_word_end octets + first_word_end (drop (first_word_end octets) octets)

-- These octets with blanks (32) in place of the first of them.
abbrev pub with_blanks : ℕ → List ℕ → List ℕ
with_blanks many octets = replicate many 32 ++ drop many octets

-- The octets of a line that names this time, without it: blanks take the place of `at` and the time.
abbrev pub without_time : Option ℕ → List ℕ → List ℕ
without_time None octets = octets
without_time (Some time) octets = with_blanks (second_word_end octets) octets

-- The octets of lines without their times.
abbrev pub lines_without_times : List Line → List ℕ
lines_without_times [] = []
lines_without_times (first ∷ lines) = without_time (own_time (line_content first)) (line_with_feed first) ++ lines_without_times lines

-- A script without its times. Each line keeps its number, and each word its place.
abbrev pub without_times : List ℕ → List ℕ
without_times script = lines_without_times (lines_of script)

-- ---- what is carried out before the cells, and what waits

-- The octets of the lines before the first time.
abbrev pub octets_before_times : List (Option ℕ) → List Line → List ℕ
octets_before_times [] lines = []
octets_before_times (time ∷ times) [] = []
octets_before_times (None ∷ times) (first ∷ lines) = line_with_feed first ++ octets_before_times times lines
octets_before_times (Some time ∷ times) (first ∷ lines) = []

-- A line that waits for a moment, in ticks.
pub record WaitingCommand : Type 0 where
  pub moment : ℕ
  pub content : List ℕ

-- The first moment that isn't before this time, both in nanoseconds, where a tick has this many.
abbrev pub moment_of_time : ℕ → ℕ → ℕ
moment_of_time tick time = time / tick + (if time % tick == 0 then 0 else 1)

-- A line of this content, which waits for this moment. A line without words and a remark don't.
abbrev pub waiting_line : ℕ → List ℕ → List WaitingCommand
waiting_line moment content = if is_silent (words_of content) then [] else (record { moment = moment; content = content }) ∷ []

-- The lines from the first one with a time on, which wait.
abbrev pub waiting_at : ℕ → List (Option ℕ) → List Line → List WaitingCommand
waiting_at tick [] lines = []
waiting_at tick (time ∷ times) [] = []
waiting_at tick (None ∷ times) (first ∷ lines) = waiting_at tick times lines
waiting_at tick (Some time ∷ times) (first ∷ lines) = waiting_line (moment_of_time tick time) (line_content first) ++ waiting_at tick times lines
