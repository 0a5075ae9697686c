-- Every code is accepted or has a first fault.
use Rattle.std.proofs.Common.{◌≡◌, ℕ, zero, suc, ◌-◌, ◌<◌, ◌⊎◌, inl, inr, List, [], ◌∷◌, length, Any, refl, subst, arith}
use Rattle.std.proofs.lemmas.Bool.{cases_lt}
use Rattle.std.proofs.lemmas.Option.{slice_get_cases, slice_get_within}
use Rattle.bpf_code.specs.declared.instr.Instr.{Instr}
use Rattle.bpf_code.specs.declared.instr.Instr.TheVariants.{LoadMem, LdxMem}
use Rattle.bpf_code.specs.Flow.{IsInstrAt, IsReturn, IsSuccessor, LeadsTo}
use Rattle.bpf_code.specs.Scratch.{ReadsWord}
use Rattle.bpf_verify.specs.declared.fault.Fault.{Fault}
use Rattle.bpf_verify.specs.declared.fault.Fault.TheVariants.{Empty, TooLong, NoReturn, Unwritten}
use Rattle.bpf_verify.specs.Accepted.{IsAccepted, IsSized, IsSoundInstr, EndsInReturn}
use Rattle.bpf_verify.specs.Faults.{BreaksFirst, FailsFirst, IsOwnFault, IsSoundBelow, IsUnwrittenAt, LacksReturn}
use Rattle.bpf_verify.specs.Paths.{IsPath, IsWrittenAt, Stores}
use Rattle.bpf_verify.proofs.FirstFault.{sound_or_fault, fails-from_break, decide_return, decide_stores, last_instr, one_read}
use Rattle.bpf_verify.proofs.Onward.{decide_leads, successor_forward}
use Rattle.bpf_verify.proofs.Places.{any_here, any_later, any_none, any_split, one_there}
use Rattle.bpf_verify.proofs.Visit.{all_written}

-- If each number below a bound has a fact or lacks it, either some number is the first that has it or all lack it.
first_below : (Has Lacks : ℕ → Type 0) (bound : ℕ) → ((n : ℕ) → n < bound → Has n ⊎ Lacks n)
    → ((n : ℕ) × Has n × ((m : ℕ) → m < n → Lacks m)) ⊎ ((n : ℕ) → n < bound → Lacks n)
first_below Has Lacks zero decide = inr (λ n lt. absurd (omega arith))
first_below Has Lacks (suc bound) decide =
    elim (first_below Has Lacks bound (λ n lt. decide n (omega arith))) [
      | inl found ↦ inl found
      | inr before ↦ elim (decide bound (omega arith)) [
        | inl has ↦ inl (bound, has, before)
        | inr lacks ↦ inr (λ n lt. elim (cases_lt n bound) [
          | inl earlier ↦ before n earlier
          | inr le ↦ let e : bound ≡ n = omega arith in subst Lacks e lacks
        ])
      ]
    ]

sized_or_fault : (code : List Instr) → IsSized code ⊎ ((fault : Fault) × FailsFirst code fault)
sized_or_fault code =
    elim (cases_lt 0 (length code)) [
      | inr none ↦ inr (Empty, omega arith)
      | inl some ↦ elim (cases_lt 4096 (length code)) [
        | inl many ↦ inr (TooLong, many)
        | inr few ↦ inl (record { least = some; most = few })
      ]
    ]

-- The instruction at this place has a fault.
Breaks : List Instr → ℕ → Type 0
Breaks code place = (fault : Fault) × ((i : Instr) × IsInstrAt code place i × IsOwnFault (length code) place i fault)

-- Each instruction at this place is sound.
Holds : List Instr → ℕ → Type 0
Holds code place = (i : Instr) → IsInstrAt code place i → IsSoundInstr (length code) place i

breaks_or_holds : (code : List Instr) (place : ℕ) → Breaks code place ⊎ Holds code place
unfolding Breaks Holds
breaks_or_holds code place =
    elim (slice_get_cases code place).1 [
      | inr past ↦ inr (λ i instr_there. absurd (omega (arith, past.0, slice_get_within code place i instr_there)))
      | inl here ↦ elim (sound_or_fault (length code) place here.0) [
        | inr faulty ↦ inl (faulty.0, (here.0, here.2, faulty.1))
        | inl sound ↦ inr (λ i instr_there. subst (λ j. IsSoundInstr (length code) place j) (one_there code place here.0 i here.2 instr_there) sound)
      ]
    ]

-- Each instruction is sound, or one is the first that isn't.
sound_or_break : (code : List Instr) → IsSoundBelow code (length code) ⊎ ((place : ℕ) × (fault : Fault) × BreaksFirst code place fault)
unfolding Breaks Holds
sound_or_break code =
    elim (first_below (Breaks code) (Holds code) (length code) (λ place lt. breaks_or_holds code place)) [
      | inr sound ↦ inl (λ place i lt instr_there. sound place lt i instr_there)
      | inl first ↦ inr (first.0, first.1.0, ((λ place i lt instr_there. first.2 place lt i instr_there), first.1.1))
    ]

-- The code ends in a return or lacks it.
ends_or_lacks : (code : List Instr) → 0 < length code → EndsInReturn code ⊎ LacksReturn code
ends_or_lacks code some =
    let last = last_instr code some in
    elim (decide_return last.0) [
      | inl returns ↦ inl (last.0, last.1, returns)
      | inr goes_on ↦ inr (λ i instr_there returns. goes_on (subst IsReturn (one_there code (length code - 1) i last.0 instr_there last.1) returns))
    ]

decide_successor : (code : List Instr) (place next : ℕ) → IsSuccessor code place next ⊎ (IsSuccessor code place next → ⊥)
decide_successor code place next =
    elim (slice_get_cases code place).1 [
      | inr past ↦ inr (λ s. omega (arith, past.0, slice_get_within code place s.0 s.1))
      | inl here ↦ elim (decide_leads place here.0 next) [
        | inl leads ↦ inl (here.0, here.2, leads)
        | inr apart ↦ inr (λ s. apart (subst (λ i. LeadsTo place i next) (one_there code place s.0 here.0 s.1 here.2) s.2))
      ]
    ]

module _ (code : List Instr) (word : ℕ) where
  -- Some path to the place has passed no store of the word.
  Spares : ℕ → Type 0
  Spares place = (passed : List ℕ) × IsPath code passed place × (Any (Stores code word) passed → ⊥)

  -- Each path to the place has passed a store of the word.
  Covers : ℕ → Type 0
  Covers place = (passed : List ℕ) → IsPath code passed place → Any (Stores code word) passed

  -- Each path to the next place that comes through this one has passed a store of the word.
  CoversThrough : ℕ → ℕ → Type 0
  CoversThrough next place = IsSuccessor code place next → (passed : List ℕ) → IsPath code passed place → Any (Stores code word) (place ∷ passed)

  spares_or_covers_through : (next place : ℕ) → Spares place ⊎ Covers place → Spares next ⊎ CoversThrough next place
  unfolding Spares Covers CoversThrough
  spares_or_covers_through next place paths =
      elim (decide_stores code word place) [
        | inl stores ↦ inr (λ leads passed path. any_here (Stores code word) place passed stores)
        | inr keeps ↦ elim paths [
          | inr covers ↦ inr (λ leads passed path. any_later (Stores code word) place passed (covers passed path))
          | inl spares ↦ elim (decide_successor code place next) [
            | inr apart ↦ inr (λ leads. absurd (apart leads))
            | inl leads ↦ inl (
              place ∷ spares.0,
              (spares.1, leads),
              λ h. elim (any_split (Stores code word) place spares.0 h) [ inl here ↦ keeps here | inr earlier ↦ spares.2 earlier ],
            )
          ]
        ]
      ]

  -- Every path to a place after the first passes an earlier place.
  covers-from_each : (place : ℕ) → 0 < place → ((earlier : ℕ) → earlier < place → CoversThrough place earlier) → Covers place
  unfolding Covers CoversThrough
  covers-from_each place after each [] path = absurd (omega (arith, path, after))
  covers-from_each place after each (latest ∷ passed) path =
      each latest (successor_forward code latest place path.1) path.1 passed path.0

  spares_or_covers : (bound place : ℕ) → place < bound → Spares place ⊎ Covers place
  unfolding Spares
  spares_or_covers zero place lt = absurd (omega arith)
  spares_or_covers (suc bound) zero lt = inl ([], refl, any_none (Stores code word))
  spares_or_covers (suc bound) (suc place) lt =
      elim (first_below (λ earlier. Spares (suc place)) (CoversThrough (suc place)) (suc place)
      (λ earlier before. spares_or_covers_through (suc place) earlier (spares_or_covers bound earlier (omega arith)))) [
        | inl found ↦ inl found.1
        | inr each ↦ inr (covers-from_each (suc place) (omega arith) each)
      ]

-- The word that an instruction reads, if it reads one.
reads_or_not : (i : Instr) → ((word : ℕ) × ReadsWord i word) ⊎ ((word : ℕ) → ReadsWord i word → ⊥)
reads_or_not (LoadMem k) = inl (k, refl)
reads_or_not (LdxMem k) = inl (k, refl)
reads_or_not _ = inr (λ word h. h)

-- Some path to a place doesn't store a word that the place reads, or all paths store all such words.
unwritten_or_written : (code : List Instr) (place : ℕ) → ((word : ℕ) × IsUnwrittenAt code place word) ⊎ IsWrittenAt code place
unfolding Spares Covers
unwritten_or_written code place =
    elim (slice_get_cases code place).1 [
      | inr past ↦ inr (λ word passed path reads. absurd (omega (arith, past.0, slice_get_within code place reads.0 reads.1)))
      | inl here ↦ elim (reads_or_not here.0) [
        | inr none ↦ inr (λ word passed path reads. absurd (none word (subst (λ i. ReadsWord i word) (one_there code place reads.0 here.0 reads.1 here.2) reads.2)))
        | inl read ↦ elim (spares_or_covers code read.0 (suc place) place (omega arith)) [
          | inl spares ↦ inl (read.0, ((here.0, here.2, read.1), spares))
          | inr covers ↦ inr (λ word passed path reads.
              let reads_here : ReadsWord here.0 word = subst (λ i. ReadsWord i word) (one_there code place reads.0 here.0 reads.1 here.2) reads.2 in
              subst (λ w. Any (Stores code w) passed) (one_read here.0 read.0 word read.1 reads_here) (covers passed path))
        ]
      ]
    ]

pub accepted-or_fault : (code : List Instr) → IsAccepted code ⊎ ((fault : Fault) × FailsFirst code fault)
accepted-or_fault code =
    elim (sized_or_fault code) [
      | inr faulty ↦ inr faulty
      | inl sized ↦ elim (sound_or_break code) [
        | inr broken ↦ inr (broken.1, fails-from_break code broken.0 broken.1 sized broken.2)
        | inl sound ↦ elim (ends_or_lacks code sized.least) [
          | inr lacks ↦ inr (NoReturn, (sized, sound, lacks))
          | inl ends ↦ elim (first_below (λ place. (word : ℕ) × IsUnwrittenAt code place word) (IsWrittenAt code) (length code) (λ place lt. unwritten_or_written code place)) [
            | inl first ↦ inr (Unwritten first.0 first.1.0, (sized, sound, ends, first.2, first.1.1))
            | inr written ↦ inl (record {
              sized = sized;
              sound = λ place i instr_there. sound place i (slice_get_within code place i instr_there) instr_there;
              ends = ends;
              written = all_written code written;
            })
          ]
        ]
      ]
    ]
