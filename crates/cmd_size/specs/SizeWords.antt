-- The words of a contract: rates, times and numbers, and the names before them.
use Rattle.std.specs.Prelude.{ℕ, ◌+◌, ◌-◌, ◌*◌, ◌^◌, nat_le, if◌then◌else◌, Bool, List, [], ◌∷◌, take, drop, length, codes, Option, Some, None, option_map, Result, Ok, Err}
use Rattle.std.specs.Option.{option_and_then}
use Rattle.std.specs.Str.{bytes_eq}
use Rattle.text_script.specs.ScriptWords.{cut_at, most_number, number_of_digits, up_to, with_both}
use Rattle.cmd_size.specs.Sizing.{followed}
use Rattle.cmd_size.specs.declared.fault.SizeFault.{SizeFault}
use Rattle.cmd_size.specs.declared.fault.SizeFault.TheVariants.{BadLine, BadNumber}
use Rattle.cmd_size.specs.declared.figures.CellRate.{CellRate}
use Rattle.cmd_size.specs.declared.figures.CellRate.TheVariants.{Cells, Bits}
use Rattle.cmd_size.specs.declared.figures.Figures.{Figures}
use Rattle.cmd_size.specs.declared.figures.Sustained.{Sustained}
use Rattle.cmd_size.specs.declared.figures.VbrKind.{VbrKind}
use Rattle.cmd_size.specs.declared.figures.VbrKind.TheVariants.{Vbr1, Vbr2, Vbr3}

-- The word ends in this unit.
abbrev pub ends_in : List ℕ → List ℕ → Bool
ends_in unit word = bytes_eq (drop (length word - length unit) word) unit

-- The word without its last octets.
abbrev pub without_last : ℕ → List ℕ → List ℕ
without_last count word = take (length word - count) word

-- The smaller units of this number of units, each of which has `scale`. They are at most 2^64 - 1.
abbrev pub in_smaller : ℕ → List ℕ → Option ℕ
in_smaller scale digits = option_and_then (λ count. up_to most_number (count * scale)) (number_of_digits digits)

-- A time, in nanoseconds.
abbrev pub duration_of : List ℕ → Option ℕ
duration_of word =
    if ends_in (codes "ns") word then in_smaller 1 (without_last 2 word)
    else if ends_in (codes "us") word then in_smaller 1000 (without_last 2 word)
    else if ends_in (codes "ms") word then in_smaller 1000000 (without_last 2 word)
    else if ends_in (codes "s") word then in_smaller 1000000000 (without_last 1 word)
    else None

-- The millionths that one to six decimals spell.
abbrev pub millionths_of : List ℕ → Option ℕ
millionths_of digits =
    if nat_le (length digits) 6 then in_smaller (10 ^ (6 - length digits)) digits else None

-- A number of millions with its millionths, if it has any.
abbrev pub millions_with : List ℕ → Option (List ℕ × List ℕ) → Option ℕ
millions_with word None = in_smaller 1000000 word
millions_with word (Some cut) =
    option_and_then (up_to most_number) (with_both (λ whole part. whole * 1000000 + part) (number_of_digits cut.0) (millionths_of cut.1))

-- A number of millions, which may have a point (46) and decimals.
abbrev pub millions_of : List ℕ → Option ℕ
millions_of word = millions_with word (cut_at 46 word)

-- A rate: cells a second, or millions of bits a second.
abbrev pub cell_rate_of : List ℕ → Option CellRate
cell_rate_of word =
    if ends_in (codes "Mbit/s") word then option_map (λ count. Bits count) (millions_of (without_last 6 word))
    else option_map (λ count. Cells count) (number_of_digits word)

-- The value of a word, if it has one.
abbrev pub or_bad_number : {A : Type 0} → Option A → Result A SizeFault
or_bad_number None = Err BadNumber
or_bad_number (Some value) = Ok value

-- The word after this name, and the words after that.
abbrev pub named_word : List ℕ → List (List ℕ) → Result (List ℕ × List (List ℕ)) SizeFault
named_word name [] = Err BadLine
named_word name (word ∷ []) = Err BadLine
named_word name (word ∷ value ∷ words) = if bytes_eq word name then Ok (value, words) else Err BadLine

-- What the word after this name means, and the words after that.
abbrev pub named_value : {A : Type 0} → (List ℕ → Option A) → List ℕ → List (List ℕ) → Result (A × List (List ℕ)) SizeFault
named_value meaning name words =
    followed (named_word name words) (λ found. followed (or_bad_number (meaning found.0)) (λ value. Ok (value, found.1)))

-- The contract, if no words are left.
abbrev pub if_none_left : Figures → List (List ℕ) → Result Figures SizeFault
if_none_left figures [] = Ok figures
if_none_left figures (word ∷ words) = Err BadLine

-- The figures of a contract.
abbrev pub figures_with : CellRate → Option Sustained → ℕ → ℕ → Figures
figures_with rate asked tolerance ticks = record { pcr = rate; sustained = asked; cdvt = tolerance; tick = ticks }

-- `cdvt TIME tick TIME`, the end of a contract.
abbrev pub ended_with : CellRate → Option Sustained → List (List ℕ) → Result Figures SizeFault
ended_with rate asked words =
    followed (named_value duration_of (codes "cdvt") words) (λ cdvt.
    followed (named_value duration_of (codes "tick") cdvt.1) (λ tick.
    if_none_left (figures_with rate asked cdvt.0 tick.0) tick.1))

-- `pcr RATE cdvt TIME tick TIME`
abbrev pub cbr_of : List (List ℕ) → Result Figures SizeFault
cbr_of words = followed (named_value cell_rate_of (codes "pcr") words) (λ pcr. ended_with pcr.0 None pcr.1)

-- The figures of the sustained rate.
abbrev pub sustained_with : VbrKind → CellRate → ℕ → Sustained
sustained_with sort rate cells = record { kind = sort; scr = rate; mbs = cells }

-- `pcr RATE scr RATE mbs NUMBER cdvt TIME tick TIME`
abbrev pub vbr_of : VbrKind → List (List ℕ) → Result Figures SizeFault
vbr_of kind words =
    followed (named_value cell_rate_of (codes "pcr") words) (λ pcr.
    followed (named_value cell_rate_of (codes "scr") pcr.1) (λ scr.
    followed (named_value number_of_digits (codes "mbs") scr.1) (λ mbs.
    ended_with pcr.0 (Some (sustained_with kind scr.0 mbs.0)) mbs.1)))

-- The figures of a line's words, or the first fault in their order.
abbrev pub figures_of : List (List ℕ) → Result Figures SizeFault
figures_of [] = Err BadLine
figures_of (name ∷ words) =
    if bytes_eq name (codes "cbr1") then cbr_of words
    else if bytes_eq name (codes "vbr1") then vbr_of Vbr1 words
    else if bytes_eq name (codes "vbr2") then vbr_of Vbr2 words
    else if bytes_eq name (codes "vbr3") then vbr_of Vbr3 words
    else Err BadLine
