-- The output of `upc-lab size`. Each line with words is a contract, and its answer is the contract as `setup` of `upc run` takes
-- it, and the rates that its buckets police.
use Rattle.std.specs.Prelude.{◌≡◌, ℕ, ◌/◌, ◌%◌, nat_le, if◌then◌else◌, List, [], ◌++◌, codes, decimal, Option, Some, None, Result, Ok, Err}
use Rattle.text_io.specs.Lines.{lines_of}
use Rattle.text_io.specs.Printing.{Rules, Prints}
use Rattle.text_io.specs.Words.{words_of, is_silent}
use Rattle.text_io.specs.declared.ending.Done.{Done}
use Rattle.text_io.specs.declared.ending.Done.TheVariants.{Whole}
use Rattle.text_words.specs.FaultLines.{too_long}
use Rattle.cmd_size.specs.SizeFaults.{size_fault}
use Rattle.cmd_size.specs.Advice.{better_tick_of, is_coarse}
use Rattle.cmd_size.specs.Sizing.{sizes_of}
use Rattle.cmd_size.specs.SizeWords.{figures_of}
use Rattle.cmd_size.specs.declared.fault.SizeFault.{SizeFault}
use Rattle.cmd_size.specs.declared.figures.Figures.{Figures}
use Rattle.cmd_size.specs.declared.figures.Sustained.{Sustained}
use Rattle.cmd_size.specs.declared.figures.VbrKind.{VbrKind}
use Rattle.cmd_size.specs.declared.figures.VbrKind.TheVariants.{Vbr1, Vbr2, Vbr3}
use Rattle.cmd_size.specs.declared.sizing.SizedRate.{SizedRate}
use Rattle.cmd_size.specs.declared.sizing.Sizes.{Sizes}

-- The name of a kind.
abbrev pub vbr_name : VbrKind → List ℕ
vbr_name Vbr1 = codes "vbr1:"
vbr_name Vbr2 = codes "vbr2:"
vbr_name Vbr3 = codes "vbr3:"

-- The name of the kind of a contract, and a colon.
abbrev pub kind_name : Option Sustained → List ℕ
kind_name None = codes "cbr1:"
kind_name (Some asked) = vbr_name asked.kind

-- A bucket: its increment and its limit.
abbrev pub bucket_text : SizedRate → List ℕ
bucket_text rate = decimal rate.increment ++ codes "/" ++ decimal rate.limit

-- The bucket of the sustained rate, after a colon.
abbrev pub second_bucket_text : Option SizedRate → List ℕ
second_bucket_text None = []
second_bucket_text (Some rate) = codes ":" ++ bucket_text rate

-- The contract as `setup` takes it.
abbrev pub contract_text : Figures → Sizes → List ℕ
contract_text figures sizes = kind_name figures.sustained ++ bucket_text sizes.peak ++ second_bucket_text sizes.sustained

-- Hundredths of a percent, with two decimals.
abbrev pub percent_text : ℕ → List ℕ
percent_text hundredths = decimal (hundredths / 100) ++ codes "." ++ decimal (hundredths / 10 % 10) ++ decimal (hundredths % 10) ++ codes "%"

-- The rate that a bucket polices, and by how much it is above the one asked for.
abbrev pub rate_text : SizedRate → List ℕ
rate_text rate = decimal rate.policed ++ codes " +" ++ percent_text rate.distance

-- The rate that the bucket of the sustained rate polices, and by how much it is above the one asked for.
abbrev pub second_rate_text : Option SizedRate → List ℕ
second_rate_text None = []
second_rate_text (Some rate) = codes " scr " ++ rate_text rate

-- The rates that the buckets police.
abbrev pub rates_text : Sizes → List ℕ
rates_text sizes = codes " pcr " ++ rate_text sizes.peak ++ second_rate_text sizes.sustained

-- A tick, in the greatest unit of which it has one or more.
abbrev pub tick_in_units : ℕ → List ℕ
tick_in_units tick =
    if nat_le 1000000000 tick then decimal (tick / 1000000000) ++ codes "s"
    else if nat_le 1000000 tick then decimal (tick / 1000000) ++ codes "ms"
    else if nat_le 1000 tick then decimal (tick / 1000) ++ codes "us"
    else decimal tick ++ codes "ns"

-- The tick that is advised.
abbrev pub advised_text : Option ℕ → List ℕ
advised_text None = codes "none"
advised_text (Some tick) = tick_in_units tick

-- A tick is advised if a rate is coarse.
abbrev pub advice_text : Figures → Sizes → List ℕ
advice_text figures sizes = if is_coarse sizes then codes " coarse " ++ advised_text (better_tick_of figures) else []

-- The answer to a contract, or the fault of its sizes.
abbrev pub sizes_text : Figures → Result Sizes SizeFault → List ℕ
sizes_text figures (Err kind) = size_fault kind
sizes_text figures (Ok sizes) = contract_text figures sizes ++ rates_text sizes ++ advice_text figures sizes ++ codes "\n"

-- The answer to the words of a contract, or the fault of the words.
abbrev pub figures_text : Result Figures SizeFault → List ℕ
figures_text (Err kind) = size_fault kind
figures_text (Ok figures) = sizes_text figures (sizes_of figures)

-- The answer to a line of these words. A line without words and a comment have an empty answer.
abbrev pub size_answer : List (List ℕ) → List ℕ
size_answer words = if is_silent words then [] else figures_text (figures_of words)

-- No line depends on another.
abbrev pub SizeWorld : Type 0
SizeWorld = Unit {0}

-- The answer to a line. None ends the run.
abbrev pub SizeSteps : SizeWorld → List ℕ → List ℕ → Option SizeWorld → Type 0
SizeSteps world content text next = (text ≡ size_answer (words_of content)) × (next ≡ Some world)

-- The end of the input has no answer.
abbrev pub SizeCloses : SizeWorld → List ℕ → Done → Type 0
SizeCloses world text done = (text ≡ []) × (done ≡ Whole)

-- The rules of `size`.
abbrev pub size_rules : Rules SizeWorld
size_rules = record { steps = SizeSteps; closes = SizeCloses; too_long = too_long; is_sound = λ world. Unit {0} }

-- The output for a whole input, and how the run ends.
abbrev pub IsSizesText : List ℕ → List ℕ → Done → Type 0
IsSizesText octets text done = Prints size_rules 0 tt (lines_of octets) text done
