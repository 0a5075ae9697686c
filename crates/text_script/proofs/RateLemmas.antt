-- The contracts that a script requests, made one after another.
use Rattle.std.proofs.Common.{◌≡◌, ℕ, suc, ◌+◌, ◌<◌, List, [], ◌∷◌, ◌++◌, Option, Some, None, length, take, drop, get_or, refl, sym, ap, ◌∙◌, subst, arith, add-one, length-append, drop-cons}
use Rattle.std.proofs.Math.Seq.{take-suc}
use Rattle.std.proofs.lemmas.List.{take-append-drop}
use Rattle.leaky.specs.declared.contract.Contract.{Contract}
use Rattle.leaky.specs.declared.gcra.GcraFault.{GcraFault}
use Rattle.text_script.specs.Rates.{AreContracts, IsContract, first_of_two, first_wanted_fault, wanted_fault}
use Rattle.text_script.specs.declared.script_words.Wanted.{Wanted}

-- The first `count` requested contracts are made, and none of these has an error.
pub record MadeOf (asks : List Wanted) (made : List Contract) (count : ℕ) : Type 0 where
  pub contracts : AreContracts (take count asks) made
  pub sound : first_wanted_fault (take count asks) ≡ None
  pub many : length made ≡ count

made-next : (asks : List Wanted) (made : List Contract) (ask : Wanted) (contract : Contract)
    → AreContracts asks made → IsContract ask contract → AreContracts (asks ++ ask ∷ []) (made ++ contract ∷ [])
made-next [] [] ask contract so_far is = (is, tt)
made-next [] (other ∷ made) ask contract so_far is = absurd so_far
made-next (first ∷ asks) [] ask contract so_far is = absurd so_far
made-next (first ∷ asks) (other ∷ made) ask contract so_far is = (so_far.0, made-next asks made ask contract so_far.1 is)

-- If the first of two errors is none, the second decides.
none-first : (fault here joined later : Option GcraFault) → first_of_two fault here ≡ None → (here ≡ None → joined ≡ later)
    → first_of_two fault joined ≡ later
none-first None here joined later sound after = after sound
none-first (Some fault) here joined later sound after = cc

-- The first error of requested contracts without one, followed by others.
fault-after : (asks later : List Wanted) → first_wanted_fault asks ≡ None → first_wanted_fault (asks ++ later) ≡ first_wanted_fault later
fault-after [] later sound = refl
fault-after (ask ∷ asks) later sound =
    none-first (wanted_fault ask) (first_wanted_fault asks) (first_wanted_fault (asks ++ later)) (first_wanted_fault later) sound
    (fault-after asks later)

pub made-one_more : (asks : List Wanted) (made : List Contract) (count : ℕ) (other : Wanted) (contract : Contract)
    → count < length asks → MadeOf asks made count → IsContract (get_or asks count other) contract
    → wanted_fault (get_or asks count other) ≡ None → MadeOf asks (made ++ contract ∷ []) (count + 1)
made-one_more asks made count other contract below so_far is sound =
    let ask : Wanted = get_or asks count other in
    let grown : take (count + 1) asks ≡ take count asks ++ ask ∷ [] = rw add-one (take-suc asks count other below) in
    let P : List Wanted → Type 0 = λ xs. AreContracts xs (made ++ contract ∷ []) in
    record {
      contracts = subst P (sym grown) (made-next (take count asks) made ask contract so_far.contracts is);
      sound = ap first_wanted_fault grown ∙ fault-after (take count asks) (ask ∷ []) so_far.sound
          ∙ ap (λ (f : Option GcraFault). first_of_two f None) sound;
      many = omega (arith, length-append made (contract ∷ []), so_far.many);
    }

-- The first error is that of the first contract with one.
pub faulty-first : (asks : List Wanted) (made : List Contract) (count : ℕ) (other : Wanted) (fault : GcraFault)
    → count < length asks → MadeOf asks made count → wanted_fault (get_or asks count other) ≡ Some fault
    → first_wanted_fault asks ≡ Some fault
faulty-first asks made count other fault below so_far faulty =
    let ask : Wanted = get_or asks count other in
    let after : List Wanted = drop (suc count) asks in
    let split : asks ≡ take count asks ++ ask ∷ after =
    sym (take-append-drop count asks) ∙ ap (λ xs. take count asks ++ xs) (drop-cons asks count other below) in
    ap first_wanted_fault split ∙ fault-after (take count asks) (ask ∷ after) so_far.sound
    ∙ ap (λ (f : Option GcraFault). first_of_two f (first_wanted_fault after)) faulty
