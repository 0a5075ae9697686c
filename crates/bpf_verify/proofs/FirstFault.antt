-- A code has at most one first fault, and none exactly if it is accepted.
use Rattle.std.proofs.Common.{◌≡◌, ℕ, zero, suc, ◌+◌, ◌-◌, ◌<◌, ◌≤◌, ◌⊎◌, inl, inr, List, [], ◌∷◌, length, get_or, refl, sym, ap, subst, ◌∙◌, arith}
use Rattle.std.proofs.lemmas.Bool.{cases_lt, cases_order}
use Rattle.std.proofs.lemmas.Option.{slice_get_cases, slice_get_within, slice_get-get_or}
use Rattle.bpf_code.specs.declared.instr.By.TheVariants.{Imm}
use Rattle.bpf_code.specs.declared.instr.Instr.{Instr}
use Rattle.bpf_code.specs.declared.instr.Instr.TheVariants.{Alu, Branch, Jump, LdxMem, LoadMem, RetA, RetK, Store, StoreX}
use Rattle.bpf_code.specs.declared.instr.Op.TheVariants.{Div, Lsh, Mod, Rsh}
use Rattle.bpf_code.specs.Flow.{IsInstrAt, IsReturn, JumpsTo}
use Rattle.bpf_code.specs.Operands.{DividesBy, ShiftsBy}
use Rattle.bpf_code.specs.Scratch.{NamesWord, ReadsWord, StoresWord}
use Rattle.bpf_verify.specs.declared.fault.Fault.{Fault}
use Rattle.bpf_verify.specs.declared.fault.Fault.TheVariants.{Empty, TooLong, BadScratch, ZeroDivisor, BadShift, JumpOutside, NoReturn, Unwritten}
use Rattle.bpf_verify.specs.Accepted.{IsAccepted, IsSized, IsSoundInstr, EndsInReturn}
use Rattle.bpf_verify.specs.Faults.{BreaksFirst, FailsFirst, IsOwnFault, IsSoundBelow, IsUnwrittenAt}
use Rattle.bpf_verify.specs.Paths.{IsWrittenAt, Stores}
use Rattle.bpf_verify.proofs.Masks.{decide_store}
use Rattle.bpf_verify.proofs.Places.{decide_any, one_there}

-- An instruction that has a fault isn't sound.
unsound-from_fault : (size place : ℕ) (i : Instr) (fault : Fault) → IsOwnFault size place i fault → IsSoundInstr size place i → ⊥
unsound-from_fault size place i (BadScratch at) breaks sound = omega (arith, sound.scratch breaks.1.0 breaks.1.1, breaks.1.2)
unsound-from_fault size place i (ZeroDivisor at) breaks sound = omega (arith, sound.divisor 0 breaks.1)
unsound-from_fault size place i (BadShift at) breaks sound = omega (arith, sound.shift breaks.1.0 breaks.1.1, breaks.1.2)
unsound-from_fault size place i (JumpOutside at) breaks sound = omega (arith, sound.targets breaks.1.0 breaks.1.1, breaks.1.2)
unsound-from_fault size place i _ breaks sound = breaks

neither : ⊥ ⊎ ⊥ → ⊥
neither h = elim h [ inl a ↦ a | inr b ↦ b ]

-- Which of the four faults an instruction can have: 0 a scratch word, 1 a divisor, 2 a shift, 3 a jump.
abbrev kind_of : Instr → ℕ
kind_of (LoadMem k) = 0
kind_of (LdxMem k) = 0
kind_of (Store k) = 0
kind_of (StoreX k) = 0
kind_of (Alu Div by) = 1
kind_of (Alu Mod by) = 1
kind_of (Alu op by) = 2
kind_of _ = 3

abbrev fault_of_kind : ℕ → ℕ → Fault
fault_of_kind zero place = BadScratch place
fault_of_kind (suc zero) place = ZeroDivisor place
fault_of_kind (suc (suc zero)) place = BadShift place
fault_of_kind (suc (suc (suc kind))) place = JumpOutside place

kind-from_word : (i : Instr) (word : ℕ) → NamesWord i word → 0 ≡ kind_of i
kind-from_word (LoadMem k) word h = refl
kind-from_word (LdxMem k) word h = refl
kind-from_word (Store k) word h = refl
kind-from_word (StoreX k) word h = refl
kind-from_word _ word h = absurd (neither h)

kind-from_divisor : (i : Instr) (divisor : ℕ) → DividesBy i divisor → 1 ≡ kind_of i
kind-from_divisor (Alu Div (Imm k)) divisor h = refl
kind-from_divisor (Alu Mod (Imm k)) divisor h = refl
kind-from_divisor _ divisor h = absurd h

kind-from_shift : (i : Instr) (count : ℕ) → ShiftsBy i count → 2 ≡ kind_of i
kind-from_shift (Alu Lsh (Imm k)) count h = refl
kind-from_shift (Alu Rsh (Imm k)) count h = refl
kind-from_shift _ count h = absurd h

kind-from_target : (place : ℕ) (i : Instr) (target : ℕ) → JumpsTo place i target → 3 ≡ kind_of i
kind-from_target place (Jump k) target h = refl
kind-from_target place (Branch test by jt jf) target h = refl
kind-from_target place _ target h = absurd h

-- The instruction and its place determine its fault.
fault-from_kind : (size place : ℕ) (i : Instr) (fault : Fault) → IsOwnFault size place i fault → fault ≡ fault_of_kind (kind_of i) place
fault-from_kind size place i (BadScratch at) h =
    ap BadScratch h.0 ∙ ap (λ kind. fault_of_kind kind place) (kind-from_word i h.1.0 h.1.1)
fault-from_kind size place i (ZeroDivisor at) h =
    ap ZeroDivisor h.0 ∙ ap (λ kind. fault_of_kind kind place) (kind-from_divisor i 0 h.1)
fault-from_kind size place i (BadShift at) h =
    ap BadShift h.0 ∙ ap (λ kind. fault_of_kind kind place) (kind-from_shift i h.1.0 h.1.1)
fault-from_kind size place i (JumpOutside at) h =
    ap JumpOutside h.0 ∙ ap (λ kind. fault_of_kind kind place) (kind-from_target place i h.1.0 h.1.1)
fault-from_kind size place i _ h = absurd h

one_fault-of : (size place : ℕ) (i : Instr) (one other : Fault) → IsOwnFault size place i one → IsOwnFault size place i other → one ≡ other
one_fault-of size place i one other p q = fault-from_kind size place i one p ∙ sym (fault-from_kind size place i other q)

-- The number of the part of the check that finds this fault.
abbrev part_of : Fault → ℕ
part_of Empty = 0
part_of TooLong = 1
part_of (BadScratch at) = 2
part_of (ZeroDivisor at) = 2
part_of (BadShift at) = 2
part_of (JumpOutside at) = 2
part_of NoReturn = 3
part_of (Unwritten at word) = 4

-- The code passes the part with this number.
abbrev Passes : List Instr → ℕ → Type 0
Passes code zero = 0 < length code
Passes code (suc zero) = length code ≤ 4096
Passes code (suc (suc zero)) = IsSoundBelow code (length code)
Passes code (suc (suc (suc zero))) = EndsInReturn code
Passes code (suc (suc (suc (suc part)))) = (place : ℕ) → IsWrittenAt code place

passes-from_accepted : (code : List Instr) → IsAccepted code → (part : ℕ) → Passes code part
passes-from_accepted code accepted zero = accepted.sized.least
passes-from_accepted code accepted (suc zero) = accepted.sized.most
passes-from_accepted code accepted (suc (suc zero)) = λ place i within instr_there. accepted.sound place i instr_there
passes-from_accepted code accepted (suc (suc (suc zero))) = accepted.ends
passes-from_accepted code accepted (suc (suc (suc (suc part)))) = accepted.written

passes-from_sized : (code : List Instr) → IsSized code → (part : ℕ) → part < 2 → Passes code part
passes-from_sized code sized zero lt = sized.least
passes-from_sized code sized (suc zero) lt = sized.most
passes-from_sized code sized (suc (suc part)) lt = absurd (omega arith)

-- A code passes each part before the first that fails.
passes_earlier : (code : List Instr) (fault : Fault) → FailsFirst code fault → (part : ℕ) → part < part_of fault → Passes code part
passes_earlier code Empty fails part lt = absurd (omega arith)
passes_earlier code TooLong fails zero lt = omega (arith, fails)
passes_earlier code TooLong fails (suc part) lt = absurd (omega arith)
passes_earlier code (BadScratch at) fails part lt = passes-from_sized code fails.0 part lt
passes_earlier code (ZeroDivisor at) fails part lt = passes-from_sized code fails.0 part lt
passes_earlier code (BadShift at) fails part lt = passes-from_sized code fails.0 part lt
passes_earlier code (JumpOutside at) fails part lt = passes-from_sized code fails.0 part lt
passes_earlier code NoReturn fails zero lt = fails.0.least
passes_earlier code NoReturn fails (suc zero) lt = fails.0.most
passes_earlier code NoReturn fails (suc (suc zero)) lt = fails.1
passes_earlier code NoReturn fails (suc (suc (suc part))) lt = absurd (omega arith)
passes_earlier code (Unwritten at word) fails zero lt = fails.0.least
passes_earlier code (Unwritten at word) fails (suc zero) lt = fails.0.most
passes_earlier code (Unwritten at word) fails (suc (suc zero)) lt = fails.1
passes_earlier code (Unwritten at word) fails (suc (suc (suc zero))) lt = fails.2
passes_earlier code (Unwritten at word) fails (suc (suc (suc (suc part)))) lt = absurd (omega arith)

-- An instruction with a fault isn't sound.
broken : (code : List Instr) (at : ℕ) (fault : Fault) → BreaksFirst code at fault → IsSoundBelow code (length code) → ⊥
broken code at fault breaks sound =
    let here = breaks.1 in
    unsound-from_fault (length code) at here.0 fault here.2 (sound at here.0 (slice_get_within code at here.0 here.1) here.1)

-- A place isn't both written and unwritten.
unwritten : (code : List Instr) (at word : ℕ) → IsUnwrittenAt code at word → IsWrittenAt code at → ⊥
unwritten code at word lacks written =
    let path = lacks.1 in
    path.2 (written word path.0 path.1 lacks.0)

-- A code doesn't pass the part that fails.
fails_part : (code : List Instr) (fault : Fault) → FailsFirst code fault → Passes code (part_of fault) → ⊥
fails_part code Empty fails passes = omega (arith, fails, passes)
fails_part code TooLong fails passes = omega (arith, fails, passes)
fails_part code (BadScratch at) fails passes = broken code at (BadScratch at) fails.1 passes
fails_part code (ZeroDivisor at) fails passes = broken code at (ZeroDivisor at) fails.1 passes
fails_part code (BadShift at) fails passes = broken code at (BadShift at) fails.1 passes
fails_part code (JumpOutside at) fails passes = broken code at (JumpOutside at) fails.1 passes
fails_part code NoReturn fails passes = fails.2 passes.0 passes.1 passes.2
fails_part code (Unwritten at word) fails passes = unwritten code at word fails.4 (passes at)

pub refused-from_fault : (code : List Instr) (fault : Fault) → FailsFirst code fault → IsAccepted code → ⊥
refused-from_fault code fault fails accepted = fails_part code fault fails (passes-from_accepted code accepted (part_of fault))

-- The first instruction that isn't sound is at one place, and has one fault.
one_break : (code : List Instr) (a b : ℕ) (one other : Fault) → BreaksFirst code a one → BreaksFirst code b other → one ≡ other
one_break code a b one other p q =
    let at_a = p.1 in
    let at_b = q.1 in
    elim (cases_order a b) [
      | inl e ↦
          let there : IsInstrAt code a at_b.0 = subst (λ n. IsInstrAt code n at_b.0) (sym e) at_b.1 in
          let same : at_b.0 ≡ at_a.0 = one_there code a at_b.0 at_a.0 there at_a.1 in
          let breaks : IsOwnFault (length code) a at_a.0 other = subst (λ i. IsOwnFault (length code) a i other) same (subst (λ n. IsOwnFault (length code) n at_b.0 other) (sym e) at_b.2) in
          one_fault-of (length code) a at_a.0 one other at_a.2 breaks
      | inr apart ↦ elim apart [
        | inl lt ↦ absurd (unsound-from_fault (length code) a at_a.0 one at_a.2 (q.0 a at_a.0 lt at_a.1))
        | inr gt ↦ absurd (unsound-from_fault (length code) b at_b.0 other at_b.2 (p.0 b at_b.0 gt at_b.1))
      ]
    ]

-- An instruction reads at most one word.
pub one_read : (i : Instr) (v w : ℕ) → ReadsWord i v → ReadsWord i w → v ≡ w
one_read (LoadMem k) v w p q = p ∙ sym q
one_read (LdxMem k) v w p q = p ∙ sym q
one_read _ v w p q = absurd p

-- The first read that some path doesn't cover is at one place, and it reads one word.
one_unwritten : (code : List Instr) (a b v w : ℕ) → FailsFirst code (Unwritten a v) → FailsFirst code (Unwritten b w) → Unwritten a v ≡ Unwritten b w
one_unwritten code a b v w p q =
    let at_a = p.4.0 in
    let at_b = q.4.0 in
    elim (cases_order a b) [
      | inl e ↦
          let there : IsInstrAt code a at_b.0 = subst (λ n. IsInstrAt code n at_b.0) (sym e) at_b.1 in
          let same : at_b.0 ≡ at_a.0 = one_there code a at_b.0 at_a.0 there at_a.1 in
          let f : v ≡ w = one_read at_a.0 v w at_a.2 (subst (λ i. ReadsWord i w) same at_b.2) in
          ap (λ at. Unwritten at v) e ∙ ap (λ word. Unwritten b word) f
      | inr apart ↦ elim apart [
        | inl lt ↦ absurd (unwritten code a v p.4 (q.3 a lt))
        | inr gt ↦ absurd (unwritten code b w q.4 (p.3 b gt))
      ]
    ]

-- A fault of the second part is that of the first instruction that isn't sound.
break_of_part : (code : List Instr) (fault : Fault) → 2 ≡ part_of fault → FailsFirst code fault → (at : ℕ) × BreaksFirst code at fault
break_of_part code (BadScratch at) e fails = (at, fails.1)
break_of_part code (ZeroDivisor at) e fails = (at, fails.1)
break_of_part code (BadShift at) e fails = (at, fails.1)
break_of_part code (JumpOutside at) e fails = (at, fails.1)
break_of_part code Empty e fails = absurd (omega arith)
break_of_part code TooLong e fails = absurd (omega arith)
break_of_part code NoReturn e fails = absurd (omega arith)
break_of_part code (Unwritten at word) e fails = absurd (omega arith)

one_broken : (code : List Instr) (at : ℕ) (one other : Fault) → 2 ≡ part_of other → BreaksFirst code at one → FailsFirst code other → one ≡ other
one_broken code at one other e breaks fails =
    let there = break_of_part code other e fails in
    one_break code at there.0 one other breaks there.1

-- Two faults of one part are the same.
one_of_part : (code : List Instr) (one other : Fault) → part_of one ≡ part_of other → FailsFirst code one → FailsFirst code other → one ≡ other
one_of_part code (BadScratch a) other e p q = one_broken code a (BadScratch a) other e p.1 q
one_of_part code (ZeroDivisor a) other e p q = one_broken code a (ZeroDivisor a) other e p.1 q
one_of_part code (BadShift a) other e p q = one_broken code a (BadShift a) other e p.1 q
one_of_part code (JumpOutside a) other e p q = one_broken code a (JumpOutside a) other e p.1 q
one_of_part code Empty Empty e p q = refl
one_of_part code TooLong TooLong e p q = refl
one_of_part code NoReturn NoReturn e p q = refl
one_of_part code (Unwritten a v) (Unwritten b w) e p q = one_unwritten code a b v w p q
one_of_part code Empty _ e p q = absurd (omega arith)
one_of_part code TooLong _ e p q = absurd (omega arith)
one_of_part code NoReturn _ e p q = absurd (omega arith)
one_of_part code (Unwritten a v) _ e p q = absurd (omega arith)

pub one_comes_first : (code : List Instr) (one other : Fault) → FailsFirst code one → FailsFirst code other → one ≡ other
one_comes_first code one other p q =
    elim (cases_order (part_of one) (part_of other)) [
      | inl e ↦ one_of_part code one other e p q
      | inr apart ↦ elim apart [
        | inl lt ↦ absurd (fails_part code one p (passes_earlier code other q (part_of one) lt))
        | inr gt ↦ absurd (fails_part code other q (passes_earlier code one p (part_of other) gt))
      ]
    ]

-- Whether the one scratch word of an instruction is one of the sixteen.
lawful_word : (size place : ℕ) (i : Instr) (k : ℕ) → NamesWord i k → ((word : ℕ) → NamesWord i word → word ≡ k)
    → ((divisor : ℕ) → DividesBy i divisor → ⊥) → ((count : ℕ) → ShiftsBy i count → ⊥) → ((target : ℕ) → JumpsTo place i target → ⊥)
    → IsSoundInstr size place i ⊎ ((fault : Fault) × IsOwnFault size place i fault)
lawful_word size place i k names only no_divisor no_shift no_target =
    elim (cases_lt k 16) [
      | inl lt ↦ inl (record {
        scratch = λ word named. omega (arith, only word named, lt);
        divisor = λ divisor h. absurd (no_divisor divisor h);
        shift = λ count h. absurd (no_shift count h);
        targets = λ target h. absurd (no_target target h);
      })
      | inr past ↦ inr (BadScratch place, (refl, (k, names, past)))
    ]

only_read : (word k : ℕ) → (word ≡ k) ⊎ ⊥ → word ≡ k
only_read word k h = elim h [ inl e ↦ e | inr no_store ↦ absurd no_store ]

only_stored : (word k : ℕ) → ⊥ ⊎ (word ≡ k) → word ≡ k
only_stored word k h = elim h [ inl no_read ↦ absurd no_read | inr e ↦ e ]

-- An instruction is sound, or has a fault.
pub sound_or_fault : (size place : ℕ) (i : Instr) → IsSoundInstr size place i ⊎ ((fault : Fault) × IsOwnFault size place i fault)
sound_or_fault size place (LoadMem k) = lawful_word size place (LoadMem k) k (inl refl) (λ word h. only_read word k h) (λ _ h. h) (λ _ h. h) (λ _ h. h)
sound_or_fault size place (LdxMem k) = lawful_word size place (LdxMem k) k (inl refl) (λ word h. only_read word k h) (λ _ h. h) (λ _ h. h) (λ _ h. h)
sound_or_fault size place (Store k) = lawful_word size place (Store k) k (inr refl) (λ word h. only_stored word k h) (λ _ h. h) (λ _ h. h) (λ _ h. h)
sound_or_fault size place (StoreX k) = lawful_word size place (StoreX k) k (inr refl) (λ word h. only_stored word k h) (λ _ h. h) (λ _ h. h) (λ _ h. h)
sound_or_fault size place (Alu Div (Imm k)) =
    elim (cases_lt 0 k) [
      | inl lt ↦ inl (record { scratch = λ _ h. absurd (neither h); divisor = λ divisor e. omega (arith, e, lt); shift = λ _ h. absurd h; targets = λ _ h. absurd h })
      | inr le ↦ inr (ZeroDivisor place, (refl, omega (arith, le)))
    ]
sound_or_fault size place (Alu Mod (Imm k)) =
    elim (cases_lt 0 k) [
      | inl lt ↦ inl (record { scratch = λ _ h. absurd (neither h); divisor = λ divisor e. omega (arith, e, lt); shift = λ _ h. absurd h; targets = λ _ h. absurd h })
      | inr le ↦ inr (ZeroDivisor place, (refl, omega (arith, le)))
    ]
sound_or_fault size place (Alu Lsh (Imm k)) =
    elim (cases_lt k 32) [
      | inl lt ↦ inl (record { scratch = λ _ h. absurd (neither h); divisor = λ _ h. absurd h; shift = λ count e. omega (arith, e, lt); targets = λ _ h. absurd h })
      | inr past ↦ inr (BadShift place, (refl, (k, refl, past)))
    ]
sound_or_fault size place (Alu Rsh (Imm k)) =
    elim (cases_lt k 32) [
      | inl lt ↦ inl (record { scratch = λ _ h. absurd (neither h); divisor = λ _ h. absurd h; shift = λ count e. omega (arith, e, lt); targets = λ _ h. absurd h })
      | inr past ↦ inr (BadShift place, (refl, (k, refl, past)))
    ]
sound_or_fault size place (Jump k) =
    elim (cases_lt (place + 1 + k) size) [
      | inl lt ↦ inl (record { scratch = λ _ h. absurd (neither h); divisor = λ _ h. absurd h; shift = λ _ h. absurd h; targets = λ target e. omega (arith, e, lt) })
      | inr past ↦ inr (JumpOutside place, (refl, (place + 1 + k, refl, past)))
    ]
sound_or_fault size place (Branch test by jt jf) =
    elim (cases_lt (place + 1 + jt) size) [
      | inr past ↦ inr (JumpOutside place, (refl, (place + 1 + jt, inl refl, past)))
      | inl near ↦ elim (cases_lt (place + 1 + jf) size) [
        | inr past ↦ inr (JumpOutside place, (refl, (place + 1 + jf, inr refl, past)))
        | inl lt ↦ inl (record {
          scratch = λ _ h. absurd (neither h);
          divisor = λ _ h. absurd h;
          shift = λ _ h. absurd h;
          targets = λ target h. elim h [ inl e ↦ omega (arith, e, near) | inr e ↦ omega (arith, e, lt) ];
        })
      ]
    ]
sound_or_fault size place _ = inl (record { scratch = λ _ h. absurd (neither h); divisor = λ _ h. absurd h; shift = λ _ h. absurd h; targets = λ _ h. absurd h })

-- The fault of the first instruction that isn't sound is the first fault, in a code of valid size.
pub fails-from_break : (code : List Instr) (at : ℕ) (fault : Fault) → IsSized code → BreaksFirst code at fault → FailsFirst code fault
fails-from_break code at (BadScratch at') sized breaks =
    (sized, subst (λ place. BreaksFirst code place (BadScratch at')) (sym breaks.1.2.0) breaks)
fails-from_break code at (ZeroDivisor at') sized breaks =
    (sized, subst (λ place. BreaksFirst code place (ZeroDivisor at')) (sym breaks.1.2.0) breaks)
fails-from_break code at (BadShift at') sized breaks =
    (sized, subst (λ place. BreaksFirst code place (BadShift at')) (sym breaks.1.2.0) breaks)
fails-from_break code at (JumpOutside at') sized breaks =
    (sized, subst (λ place. BreaksFirst code place (JumpOutside at')) (sym breaks.1.2.0) breaks)
fails-from_break code at _ sized breaks = absurd breaks.1.2

pub decide_return : (i : Instr) → IsReturn i ⊎ (IsReturn i → ⊥)
decide_return (RetK k) = inl tt
decide_return RetA = inl tt
decide_return _ = inr (λ h. h)

pub decide_stores : (code : List Instr) (word place : ℕ) → Stores code word place ⊎ (Stores code word place → ⊥)
decide_stores code word place =
    elim (slice_get_cases code place).1 [
      | inl here ↦ elim (decide_store here.0 word) [
        | inl stores ↦ inl (here.0, here.2, stores)
        | inr keeps ↦ inr (λ h. keeps (subst (λ i. StoresWord i word) (one_there code place h.0 here.0 h.1 here.2) h.2))
      ]
      | inr past ↦ inr (λ h. omega (arith, past.0, slice_get_within code place h.0 h.1))
    ]

-- The last instruction of a code that isn't empty.
pub last_instr : (code : List Instr) → 0 < length code → (i : Instr) × IsInstrAt code (length code - 1) i
last_instr [] h = absurd (omega arith)
last_instr (i ∷ code) h =
    (get_or (i ∷ code) (length (i ∷ code) - 1) i, slice_get-get_or (i ∷ code) (length (i ∷ code) - 1) i (omega arith))

module _ (code : List Instr) (none : (fault : Fault) → FailsFirst code fault → ⊥) where
  sized-without_fault : IsSized code
  sized-without_fault = record {
    least = elim (cases_lt 0 (length code)) [ inl lt ↦ lt | inr le ↦ absurd (none Empty (omega arith)) ];
    most = elim (cases_lt 4096 (length code)) [ inl lt ↦ absurd (none TooLong lt) | inr le ↦ le ];
  }

  sound_below : (bound : ℕ) → IsSoundBelow code bound
  sound_below zero place i lt instr_there = absurd (omega arith)
  sound_below (suc bound) place i lt instr_there =
      elim (cases_lt place bound) [
        | inl earlier ↦ sound_below bound place i earlier instr_there
        | inr le ↦ elim (sound_or_fault (length code) place i) [
          | inl sound ↦ sound
          | inr faulty ↦
              let e : bound ≡ place = omega arith in
              let before : IsSoundBelow code place = subst (λ n. IsSoundBelow code n) e (sound_below bound) in
              absurd (none faulty.0 (fails-from_break code place faulty.0 sized-without_fault (before, (i, instr_there, faulty.1))))
        ]
      ]

  ends-without_fault : EndsInReturn code
  ends-without_fault =
      let last = last_instr code sized-without_fault.least in
      elim (decide_return last.0) [
        | inl returns ↦ (last.0, last.1, returns)
        | inr goes_on ↦ absurd (none NoReturn (sized-without_fault, sound_below (length code), λ i instr_there returns. goes_on (subst IsReturn (one_there code (length code - 1) i last.0 instr_there last.1) returns)))
      ]

  written_below : (bound place : ℕ) → place < bound → IsWrittenAt code place
  written_below zero place lt word passed path reads = absurd (omega arith)
  written_below (suc bound) place lt word passed path reads =
      elim (cases_lt place bound) [
        | inl earlier ↦ written_below bound place earlier word passed path reads
        | inr le ↦ elim (decide_any (Stores code word) (decide_stores code word) passed) [
          | inl stored ↦ stored
          | inr unstored ↦
              let e : bound ≡ place = omega arith in
              let before : (p : ℕ) → p < place → IsWrittenAt code p = subst (λ n. (p : ℕ) → p < n → IsWrittenAt code p) e (written_below bound) in
              absurd (none (Unwritten place word) (sized-without_fault, sound_below (length code), ends-without_fault, before, (reads, (passed, path, unstored))))
        ]
      ]

  pub accepted-without_fault : IsAccepted code
  accepted-without_fault = record {
    sized = sized-without_fault;
    sound = λ place i instr_there. sound_below (suc place) place i (omega arith) instr_there;
    ends = ends-without_fault;
    written = λ place. written_below (suc place) place (omega arith);
  }
