-- `setup` takes what is printed of a contract.
use Rattle.std.proofs.Common.{◌≡◌, ◌∙◌, ℕ, ◌<◌, ◌≤◌, ◌^◌, ◌==◌, ◌||◌, nat_lt, if◌then◌else◌, false, List, ◌++◌, Option, None, Some, Ok, codes, decimal, option_map, refl, ap, arith, subst, sym, append_assoc, append-nil}
use Rattle.std.proofs.lemmas.Bool.Decides.{nat_tests}
use Rattle.std.specs.Int.{div_ceil}
use Rattle.leaky.specs.declared.gcra.GcraFault.TheVariants.{ZeroIncrement, TooLarge}
use Rattle.text_script.specs.Rates.{first_of_two, rate_fault, wanted_fault}
use Rattle.text_script.specs.ScriptWords.{rate_of, wanted_of}
use Rattle.text_script.specs.declared.script_words.Wanted.{Wanted}
use Rattle.text_script.specs.declared.script_words.Wanted.TheVariants as asked
use Rattle.cmd_size.specs.SetupReading.{IsScriptContract, SetupTakesContracts, script_rate, script_vbr}
use Rattle.cmd_size.specs.SizeText.{bucket_text, kind_name, second_bucket_text}
use Rattle.cmd_size.specs.Sizing.{IsBucket, increment_in, is_tick, limit_within, peak_alone, both_sized, sizes_of, sizes_with, sustained_limit}
use Rattle.cmd_size.specs.declared.fault.SizeFault.TheVariants.{BadNumber}
use Rattle.cmd_size.specs.declared.figures.Figures.{Figures}
use Rattle.cmd_size.specs.declared.figures.Sustained.{Sustained}
use Rattle.cmd_size.specs.declared.figures.VbrKind.{VbrKind}
use Rattle.cmd_size.specs.declared.figures.VbrKind.TheVariants.{Vbr1, Vbr2, Vbr3}
use Rattle.cmd_size.specs.declared.sizing.SizedRate.{SizedRate}
use Rattle.cmd_size.specs.declared.sizing.Sizes.{Sizes}
use Rattle.cmd_size.proofs.SetupLemmas.{IsFree, bucket-free, cbr1-read, rate-read, rates-read, vbr-read}
use Rattle.cmd_size.proofs.SizesFound.{followed-ok, increment-bounded, limit-bounded, otherwise-fault, sustained-bounded}

-- The kind and the buckets, each within the bounds.
abbrev AreBuckets : Option Sustained → SizedRate → Option SizedRate → Type 0
AreBuckets None peak None = IsBucket peak
AreBuckets (Some figures) peak (Some sustained) = IsBucket peak × IsBucket sustained
AreBuckets _ peak _ = ⊥

-- Buckets that were found are such.
found-with : (figures : Figures) (ticks tolerance : ℕ) (asked : Option Sustained) (sizes : Sizes) → (0 < ticks) × (ticks ≤ 2 ^ 48)
    → sizes_with figures ticks tolerance asked ≡ Ok sizes → AreBuckets asked sizes.peak sizes.sustained
found-with figures ticks tolerance None sizes bounds is =
    let limit = followed-ok (limit_within tolerance) (λ limit. Ok (peak_alone figures ticks limit)) sizes is in
    let within = limit-bounded tolerance limit.0 limit.1 in
    let same : peak_alone figures ticks limit.0 ≡ sizes = let e = limit.2 in cc in
    subst (λ made. AreBuckets None made.peak made.sustained) same
    (record { some = bounds.0; increment = bounds.1; limit = omega (arith, within.0, within.1) })
found-with figures ticks tolerance (Some asked) sizes bounds is =
    let increment = followed-ok (increment_in asked.scr figures.tick) _ sizes is in
    let limit = followed-ok (sustained_limit asked.mbs increment.0 ticks tolerance) _ sizes increment.2 in
    let other = increment-bounded asked.scr figures.tick increment.0 increment.1 in
    let within = sustained-bounded asked.mbs increment.0 ticks tolerance limit.0 limit.1 in
    let same : both_sized figures ticks tolerance asked increment.0 limit.0 ≡ sizes = let e = limit.2 in cc in
    subst (λ made. AreBuckets (Some asked) made.peak made.sustained) same (
      record { some = bounds.0; increment = bounds.1; limit = omega (arith, within.0, within.1) },
      record { some = other.0; increment = other.1; limit = within.0 },
    )

found : (figures : Figures) (sizes : Sizes) → sizes_of figures ≡ Ok sizes → AreBuckets figures.sustained sizes.peak sizes.sustained
found figures sizes is =
    let past = otherwise-fault (is_tick figures.tick) BadNumber _ sizes is in
    let peak = followed-ok (increment_in figures.pcr figures.tick) _ sizes past in
    found-with figures peak.0 (div_ceil figures.cdvt figures.tick) figures.sustained sizes (increment-bounded figures.pcr figures.tick peak.0 peak.1) peak.2

-- The numbers of a bucket have no fault.
no-fault : (sized : SizedRate) → IsBucket sized → rate_fault (script_rate sized) ≡ None
no-fault sized is =
    let some : (sized.increment == 0) ≡ false = grind (arith, nat_tests, is.some) in
    let few : nat_lt (2 ^ 48) sized.increment ≡ false = grind (arith, nat_tests, is.increment) in
    let within : nat_lt (2 ^ 48) sized.limit ≡ false = grind (arith, nat_tests, is.limit) in
    ap (λ b. if b then Some ZeroIncrement else if nat_lt (2 ^ 48) sized.increment || nat_lt (2 ^ 48) sized.limit then Some TooLarge else None) some
    ∙ ap (λ b. if b || nat_lt (2 ^ 48) sized.limit then Some TooLarge else None) few
    ∙ ap (λ b. if false || b then Some TooLarge else None) within

read-of : (sized : SizedRate) → IsBucket sized → rate_of (bucket_text sized) ≡ Some (script_rate sized)
read-of sized is =
    ap rate_of (append_assoc (decimal sized.increment) (codes "/") (decimal sized.limit))
    ∙ rate-read sized.increment sized.limit is.increment is.limit

free-of : (sized : SizedRate) → IsBucket sized → IsFree 58 (bucket_text sized)
free-of sized is =
    subst (IsFree 58) (sym (append_assoc (decimal sized.increment) (codes "/") (decimal sized.limit)))
    (bucket-free sized.increment sized.limit is.increment is.limit)

-- Both have none.
no-faults : (kind : VbrKind) (peak sustained : SizedRate) → IsBucket peak → IsBucket sustained
    → wanted_fault (script_vbr kind (script_rate peak) (script_rate sustained)) ≡ None
no-faults Vbr1 peak sustained one other = ap (λ fault. first_of_two fault (rate_fault (script_rate sustained))) (no-fault peak one) ∙ no-fault sustained other
no-faults Vbr2 peak sustained one other = ap (λ fault. first_of_two fault (rate_fault (script_rate sustained))) (no-fault peak one) ∙ no-fault sustained other
no-faults Vbr3 peak sustained one other = ap (λ fault. first_of_two fault (rate_fault (script_rate sustained))) (no-fault peak one) ∙ no-fault sustained other

read : (sustained : Option Sustained) (peak : SizedRate) (second : Option SizedRate) → AreBuckets sustained peak second
    → (wanted : Wanted) × (wanted_of (kind_name sustained ++ (bucket_text peak ++ second_bucket_text second)) ≡ Some wanted)
    × IsScriptContract sustained peak second wanted × (wanted_fault wanted ≡ None)
read None peak None is = (
  asked.Cbr1 (script_rate peak),
  ap (λ rest. wanted_of (codes "cbr1:" ++ rest)) (append-nil (bucket_text peak)) ∙ cbr1-read (bucket_text peak)
      ∙ ap (λ rate. option_map (λ found. asked.Cbr1 found) rate) (read-of peak is),
  refl,
  no-fault peak is,
)
read None peak (Some second) is = absurd is
read (Some figures) peak None is = absurd is
read (Some figures) peak (Some second) is = (
  script_vbr figures.kind (script_rate peak) (script_rate second),
  vbr-read figures.kind (bucket_text peak ++ (codes ":" ++ bucket_text second))
      ∙ rates-read (λ one other. script_vbr figures.kind one other) (bucket_text peak) (bucket_text second) (script_rate peak) (script_rate second)
      (free-of peak is.0) (read-of peak is.0) (read-of second is.1),
  refl,
  no-faults figures.kind peak second is.0 is.1,
)

pub setup-takes : SetupTakesContracts
setup-takes figures sizes is =
    let Reads : List ℕ → Type 0 = λ text. (wanted : Wanted) × (wanted_of text ≡ Some wanted)
    × IsScriptContract figures.sustained sizes.peak sizes.sustained wanted × (wanted_fault wanted ≡ None) in
    subst Reads (sym (append_assoc (kind_name figures.sustained) (bucket_text sizes.peak) (second_bucket_text sizes.sustained)))
    (read figures.sustained sizes.peak sizes.sustained (found figures sizes is))
