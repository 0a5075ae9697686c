-- The tick that a setup script may name, `tick TIME` on its first line with words, and the tick of a run.
use Rattle.std.specs.Prelude.{◌+◌, ◌==◌, if◌then◌else◌, ℕ, List, [], ◌∷◌, ◌++◌, codes, decimal, drop, length, replicate, take, Option, Some, None, option_and_then, option_map, Result, Ok, Err}
use Rattle.std.specs.Str.{bytes_eq}
use Rattle.captures.specs.declared.clock.Tick.{Tick}
use Rattle.text_io.specs.Lines.{Line, line_content, line_with_feed, lines_of}
use Rattle.cmd_size.specs.SizeWords.{duration_of}
use Rattle.text_io.specs.Words.{is_silent, words_of}
use Rattle.text_words.specs.FaultLines.{line}
use Rattle.cmd_setups.specs.declared.setup_tick.TicksDiffer.{TicksDiffer}

-- A time that isn't 0, in nanoseconds.
abbrev pub some_time : ℕ → Option ℕ
some_time nanoseconds = if nanoseconds == 0 then None else Some nanoseconds

-- The nanoseconds of a tick: a time as `upc-lab size` reads it.
abbrev pub tick_time : List ℕ → Option ℕ
tick_time word = option_and_then some_time (duration_of word)

-- The tick that these words name: the word `tick`, and then a time.
abbrev pub tick_named : List (List ℕ) → Option ℕ
tick_named [] = None
tick_named (word ∷ []) = None
tick_named (word ∷ time ∷ []) = if bytes_eq word (codes "tick") then tick_time time else None
tick_named (word ∷ time ∷ other ∷ words) = None

-- The tick that a line of this content names.
unfoldable pub line_tick : List ℕ → Option ℕ
line_tick content = tick_named (words_of content)

-- The tick that the first of these lines with words names, the place of the first octet of the line, where the lines
-- begin at this place, and the number of its octets without its line feed.
abbrev pub tick_line_in : ℕ → List Line → Option (ℕ × (ℕ × ℕ))
tick_line_in at [] = None
tick_line_in at (first ∷ lines) =
    if is_silent (words_of (line_content first)) then tick_line_in (at + length (line_with_feed first)) lines
    else option_map (λ nanoseconds. (nanoseconds, (at, length first.octets))) (line_tick (line_content first))

-- The same for the lines of a script.
abbrev pub tick_line : List ℕ → Option (ℕ × (ℕ × ℕ))
tick_line script = tick_line_in 0 (lines_of script)

-- The nanoseconds of the tick that a script names, if it names one.
abbrev pub setup_tick : List ℕ → Option ℕ
setup_tick script = option_map (λ found. found.0) (tick_line script)

-- The script with blanks (32) in place of these octets, if there are any.
abbrev pub blanked : List ℕ → Option (ℕ × (ℕ × ℕ)) → List ℕ
blanked script None = script
blanked script (Some (nanoseconds, (at, size))) = take at script ++ (replicate size 32 ++ drop (at + size) script)

-- The script without its tick. Blanks take the place of the line, so each other line keeps its number.
abbrev pub without_tick : List ℕ → List ℕ
without_tick script = blanked script (tick_line script)

-- The tick of a run, in nanoseconds: the one that the setup script names, or the one that was asked for; both, if they are the same; 100 if
-- there is neither.
abbrev pub agreed_tick : Option ℕ → Option ℕ → Result ℕ (ℕ × ℕ)
agreed_tick None None = Ok 100
agreed_tick (Some named) None = Ok named
agreed_tick None (Some asked) = Ok asked
agreed_tick (Some named) (Some asked) = if named == asked then Ok named else Err (named, asked)

-- The nanoseconds of the tick, or of both ticks that differ.
abbrev pub agreed_nanoseconds : Result Tick TicksDiffer → Result ℕ (ℕ × ℕ)
agreed_nanoseconds (Ok tick) = Ok tick.nanoseconds
agreed_nanoseconds (Err ticks) = Err (ticks.named, ticks.asked)

-- The answer if the script names one tick, and another was asked for, both in nanoseconds.
abbrev pub ticks_differ : ℕ → ℕ → List ℕ
ticks_differ named asked = line (codes "fault tick 1 Differs " ++ (decimal named ++ (codes " " ++ decimal asked)))
