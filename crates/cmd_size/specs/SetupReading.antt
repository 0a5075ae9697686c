-- The contract that is printed, as `setup` of `upc run` reads it.
use Rattle.std.specs.Prelude.{◌≡◌, Option, None, Some, Ok}
use Rattle.text_script.specs.Rates.{wanted_fault}
use Rattle.text_script.specs.ScriptWords.{rate_with, wanted_of}
use Rattle.text_script.specs.declared.script_words.Rate.{Rate}
use Rattle.text_script.specs.declared.script_words.Wanted.{Wanted}
use Rattle.text_script.specs.declared.script_words.Wanted.TheVariants as wanted
use Rattle.cmd_size.specs.SizeText.{contract_text}
use Rattle.cmd_size.specs.Sizing.{sizes_of}
use Rattle.cmd_size.specs.declared.figures.Figures.{Figures}
use Rattle.cmd_size.specs.declared.figures.Sustained.{Sustained}
use Rattle.cmd_size.specs.declared.figures.VbrKind.{VbrKind}
use Rattle.cmd_size.specs.declared.figures.VbrKind.TheVariants.{Vbr1, Vbr2, Vbr3}
use Rattle.cmd_size.specs.declared.sizing.SizedRate.{SizedRate}
use Rattle.cmd_size.specs.declared.sizing.Sizes.{Sizes}

-- The rate of a script with the numbers of this bucket.
abbrev pub script_rate : SizedRate → Rate
script_rate sized = rate_with sized.increment sized.limit

-- The contract of a script with these rates, that of the peak first.
abbrev pub script_vbr : VbrKind → Rate → Rate → Wanted
script_vbr Vbr1 peak sustained = wanted.Vbr1 peak sustained
script_vbr Vbr2 peak sustained = wanted.Vbr2 peak sustained
script_vbr Vbr3 peak sustained = wanted.Vbr3 peak sustained

-- The contract of a script has the kind of the figures, and these buckets.
abbrev pub IsScriptContract : Option Sustained → SizedRate → Option SizedRate → Wanted → Type 0
IsScriptContract None peak None asked = asked ≡ wanted.Cbr1 (script_rate peak)
IsScriptContract (Some figures) peak (Some sustained) asked = asked ≡ script_vbr figures.kind (script_rate peak) (script_rate sustained)
IsScriptContract _ peak _ asked = ⊥

-- `setup` reads the printed contract as one of the same kind with the same buckets, and finds no fault in its numbers.
abbrev pub SetupTakesContracts : Type 0
SetupTakesContracts = (figures : Figures) (sizes : Sizes) → sizes_of figures ≡ Ok sizes
    → (asked : Wanted) × (wanted_of (contract_text figures sizes) ≡ Some asked)
    × IsScriptContract figures.sustained sizes.peak sizes.sustained asked × (wanted_fault asked ≡ None)
