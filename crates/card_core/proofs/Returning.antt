-- An accepted code returns on every cell, and nothing goes wrong on the way: every state that the machine comes to is one
-- of those that lead to the value.
use Rattle.std.proofs.Common.{◌≡◌, ℕ, zero, suc, List, IsSome, sym, subst, ◌∙◌}
use Rattle.std.proofs.lemmas.Option.{same_Some, slice_get_within}
use Rattle.bpf_code.specs.declared.instr.Instr.{Instr}
use Rattle.bpf_code.specs.declared.instr.Instr.TheVariants.{LoadMem, LdxMem}
use Rattle.bpf_code.specs.Scratch.{ReadsWord}
use Rattle.bpf_interp.proofs.Public.{Value-some, Value-unique}
use Rattle.bpf_interp.specs.ScratchMemory.{word_in}
use Rattle.bpf_interp.specs.State.{State, At, Ended}
use Rattle.bpf_interp.specs.Step.{Does, Step}
use Rattle.bpf_interp.specs.Value.{EndsIn, Value}
use Rattle.bpf_verify.specs.Accepted.{IsAccepted}
use Rattle.card_core.specs.Returning.{ComesTo, ReturnsSafely}
use Rattle.card_core.proofs.LookUps.{IsSome-of}
use Rattle.card_core.proofs.OneStep.{Step-unique}

-- An instruction that is executed reads only words that were written.
reads-written : (cell : List ℕ) (i : Instr) (pc a x word : ℕ) (m : List (ℕ × ℕ)) (next : State) → Does cell i pc a x m next → ReadsWord i word
    → IsSome (word_in m word)
reads-written cell (LoadMem k) pc a x word m next did reads =
    subst (λ w. IsSome (word_in m w)) (sym reads) (IsSome-of (word_in m k) did.0 did.1.1)
reads-written cell (LdxMem k) pc a x word m next did reads =
    subst (λ w. IsSome (word_in m w)) (sym reads) (IsSome-of (word_in m k) did.0 did.1.1)
reads-written cell _ pc a x word m next did reads = absurd reads

module _ (code : List Instr) (cell : List ℕ) (value : ℕ) where
  -- One step nearer to the value.
  nearer : (here next : State) (steps : ℕ) → Step code cell here next → EndsIn code cell here value steps
      → (rest : ℕ) × EndsIn code cell next value rest
  nearer here next zero step ends = absurd (subst (λ (s : State). Step code cell s next) ends step)
  nearer here next (suc rest) step ends =
      (rest, subst (λ (s : State). EndsIn code cell s value rest) (Step-unique code cell here ends.0 next ends.1 step) ends.2)

  -- Every state that the machine comes to leads to the value.
  leads-on : (steps : ℕ) → Value code cell value steps → (taken : ℕ) (state : State) → ComesTo code cell taken state
      → (rest : ℕ) × EndsIn code cell state value rest
  leads-on steps returns zero state came = (steps, subst (λ (s : State). EndsIn code cell s value steps) (sym came) returns)
  leads-on steps returns (suc taken) state came =
      let earlier = leads-on steps returns taken came.0 came.1 in
      nearer came.0 state earlier.0 came.2 earlier.1

  -- A state that has not ended has a next one.
  has-next : (pc a x : ℕ) (m : List (ℕ × ℕ)) (rest : ℕ) → EndsIn code cell (At pc a x m) value rest
      → (next : State) × Step code cell (At pc a x m) next
  has-next pc a x m zero ends = let same : At pc a x m ≡ Ended value = ends in absurd (cc)
  has-next pc a x m (suc rest) ends = (ends.0, ends.1)

pub returns-safely : (code : List Instr) (cell : List ℕ) → IsAccepted code → ReturnsSafely code cell
returns-safely code cell accepted =
    let some = Value-some code cell accepted in
    let next : (taken pc a x : ℕ) (m : List (ℕ × ℕ)) → ComesTo code cell taken (At pc a x m)
    → (next : State) × Step code cell (At pc a x m) next =
    λ taken pc a x m came.
    let on = leads-on code cell some.0 some.1 some.2 taken (At pc a x m) came in
    has-next code cell some.0 pc a x m on.0 on.1 in
    record {
      value = some.0;
      steps = some.1;
      returns = some.2;
      within = some.3;
      only = λ other taken also. Value-unique code cell other some.0 taken some.1 also some.2;
      inside = λ taken pc a x m came.
          let on = next taken pc a x m came in slice_get_within code pc on.1.0 on.1.1;
      written = λ taken pc a x word m i came instr_there reads.
          let on = next taken pc a x m came in
          let same : on.1.0 ≡ i = same_Some on.1.0 i (sym on.1.1 ∙ instr_there) in
          reads-written cell i pc a x word m on.0 (subst (λ (j : Instr). Does cell j pc a x m on.0) same on.1.2) reads;
      goes_on = next;
    }
