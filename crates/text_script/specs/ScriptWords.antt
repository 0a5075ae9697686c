-- The words of a script: numbers, names of programs and of connections, rates and contracts. A word has to match
-- exactly.
use Rattle.std.specs.Prelude.{◌≡◌, ℕ, ◌+◌, ◌-◌, ◌*◌, ◌%◌, ◌==◌, nat_le, if◌then◌else◌, List, [], ◌∷◌, codes, Option, Some, None, option_map}
use Rattle.std.proofs.Math.Nat.{mod-lt, zero-lt-suc, le_of_suc-le-suc}
use Rattle.std.specs.Option.{option_and_then}
use Rattle.std.specs.Str.{bytes_eq}
use Rattle.text_io.specs.Words.{is_digit}
use Rattle.upc_cell.specs.Side.{has_paths, last_vpi}
use Rattle.upc_cell.specs.declared.side.Side.{Side}
use Rattle.upc_cell.specs.declared.vc.Vc.{Vc}
use Rattle.text_script.specs.declared.script_words.Rate.{Rate}
use Rattle.text_script.specs.declared.script_words.Wanted.{Wanted}
use Rattle.text_script.specs.declared.script_words.Wanted.TheVariants.{Cbr1, Vbr1, Vbr2, Vbr3}

-- Both values joined, if both exist.
abbrev pub with_both : {One Other Joined : Type 0} → (One → Other → Joined) → Option One → Option Other → Option Joined
with_both join one other = option_and_then (λ first. option_map (join first) other) one

-- The number, if it is at most `most`.
abbrev pub up_to : ℕ → ℕ → Option ℕ
up_to most number = if nat_le number most then Some number else None

-- The number that these digits spell after earlier digits that spell `high`. None if an octet isn't a digit.
unfoldable pub spelled_after : ℕ → List ℕ → Option ℕ
spelled_after high [] = Some high
spelled_after high (octet ∷ octets) =
    if is_digit octet then spelled_after (high * 10 + (octet - 48)) octets else None

-- The greatest number of a word: 2^64 - 1.
abbrev pub most_number : ℕ
most_number = 18446744073709551615

-- The number that one or more digits spell, if it is at most 2^64 - 1. It may have leading zeros.
abbrev pub number_of_digits : List ℕ → Option ℕ
number_of_digits [] = None
number_of_digits (octet ∷ octets) = option_and_then (up_to most_number) (spelled_after 0 (octet ∷ octets))

-- The number that a word spells, if it is at most `most`.
abbrev pub number_up_to : ℕ → List ℕ → Option ℕ
number_up_to most word = option_and_then (up_to most) (number_of_digits word)

-- The number in the name of a program, which is the letter `p` (112) and a number.
abbrev pub program_of : List ℕ → Option ℕ
program_of [] = None
program_of (letter ∷ digits) = if letter == 112 then number_of_digits digits else None

-- The virtual connection of this path and this channel. A path is at most 4095, so the remainder changes nothing; it is
-- there because the definition takes any number.
abbrev pub connection_of : ℕ → ℕ → Vc
connection_of path channel = record {
  vpi = path % 4096;
  vci = channel;
  of_an_interface = le_of_suc-le-suc (mod-lt path (zero-lt-suc 4095));
}

-- The channel of a word: a number. Where connections are virtual paths the word is exactly `*`, and the channel is 0.
abbrev pub channel_named : Side → List ℕ → Option ℕ
channel_named side word =
    if has_paths side then (if bytes_eq word (codes "*") then Some 0 else None) else number_up_to 65535 word

-- The virtual connection of two words: a path of this side, and its channel, or `*` for a whole path.
abbrev pub vc_named : Side → List ℕ → List ℕ → Option Vc
vc_named side path channel = with_both connection_of (number_up_to (last_vpi side) path) (channel_named side channel)

-- The octets before the first `mark` and those after it. None if there is no `mark`.
unfoldable pub cut_at : ℕ → List ℕ → Option (List ℕ × List ℕ)
cut_at mark [] = None
cut_at mark (octet ∷ octets) =
    if octet == mark then Some ([], octets)
    else option_map (λ (cut : List ℕ × List ℕ). (octet ∷ cut.0, cut.1)) (cut_at mark octets)

-- The rate with this increment and limit.
abbrev pub rate_with : ℕ → ℕ → Rate
rate_with ticks tolerance = record { increment = ticks; limit = tolerance }

-- CBR.1 with increment 0 and limit 0, which is never valid: it fills the places of a list that have no contract yet.
abbrev pub IsBlankContract : Wanted → Type 0
IsBlankContract wanted = wanted ≡ Cbr1 (rate_with 0 0)

-- A rate: an increment and a limit, with a slash (47) between them.
abbrev pub rate_of : List ℕ → Option Rate
rate_of word =
    option_and_then (λ (cut : List ℕ × List ℕ). with_both rate_with (number_of_digits cut.0) (number_of_digits cut.1)) (cut_at 47 word)

-- Two rates, with a colon (58) between them.
abbrev pub two_rates : (Rate → Rate → Wanted) → List ℕ → Option Wanted
two_rates kind rates =
    option_and_then (λ (cut : List ℕ × List ℕ). with_both kind (rate_of cut.0) (rate_of cut.1)) (cut_at 58 rates)

-- The contract of the kind with this name, with these rates, that of the peak first.
abbrev pub wanted_with : List ℕ → List ℕ → Option Wanted
wanted_with kind rates =
    if bytes_eq kind (codes "cbr1") then option_map (λ rate. Cbr1 rate) (rate_of rates)
    else if bytes_eq kind (codes "vbr1") then two_rates (λ peak sustained. Vbr1 peak sustained) rates
    else if bytes_eq kind (codes "vbr2") then two_rates (λ peak sustained. Vbr2 peak sustained) rates
    else if bytes_eq kind (codes "vbr3") then two_rates (λ peak sustained. Vbr3 peak sustained) rates
    else None

-- A contract: its kind, a colon (58) and its rates.
abbrev pub wanted_of : List ℕ → Option Wanted
wanted_of word = option_and_then (λ (cut : List ℕ × List ℕ). wanted_with cut.0 cut.1) (cut_at 58 word)

-- Contracts, a word each.
abbrev pub wanted_of_each : List (List ℕ) → Option (List Wanted)
wanted_of_each [] = Some []
wanted_of_each (word ∷ words) = with_both (λ first later. first ∷ later) (wanted_of word) (wanted_of_each words)
