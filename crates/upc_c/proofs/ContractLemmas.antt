-- The contracts of a connection, one by one.
use Rattle.std.proofs.Common.{◌≡◌, inl, inr, ℕ, ◌+◌, ◌<◌, List, [], ◌∷◌, ◌++◌, length, take, drop, get_or, sym, subst, arith, add-one, length-append, drop-cons}
use Rattle.std.proofs.Math.Seq.{take-suc}
use Rattle.leaky.specs.declared.contract.Contract.{Contract}
use Rattle.upc_c.specs.CardDesk.{AreGivenContracts, IsFirstContractFault}
use Rattle.upc_c.specs.GivenContract.{AreAContract, IsGivenContract, IsContractFault}
use Rattle.upc_c.specs.declared.contract.UpcContract.{UpcContract}
use Rattle.upc_c.specs.declared.fault.UpcFault.{UpcFault}

-- This many contracts are made, and the first error is that of the others.
pub record MadeOf (given : List UpcContract) (made : List Contract) (count : ℕ) : Type 0 where
  pub contracts : AreGivenContracts (take count given) made
  pub others : (fault : UpcFault) → IsFirstContractFault (drop count given) fault → IsFirstContractFault given fault
  pub many : length made ≡ count

made-next : (given : List UpcContract) (made : List Contract) (each : UpcContract) (contract : Contract)
    → AreGivenContracts given made → IsGivenContract each contract → AreGivenContracts (given ++ each ∷ []) (made ++ contract ∷ [])
made-next [] [] each contract so_far is = (is, tt)
made-next [] (other ∷ made) each contract so_far is = absurd so_far
made-next (first ∷ given) [] each contract so_far is = absurd so_far
made-next (first ∷ given) (other ∷ made) each contract so_far is = (so_far.0, made-next given made each contract so_far.1 is)

pub made-one_more : (given : List UpcContract) (made : List Contract) (count : ℕ) (other : UpcContract) (contract : Contract)
    → count < length given → MadeOf given made count → IsGivenContract (get_or given count other) contract
    → AreAContract (get_or given count other) → MadeOf given (made ++ contract ∷ []) (count + 1)
made-one_more given made count other contract below so_far is sound =
    let each : UpcContract = get_or given count other in
    let grown : take (count + 1) given ≡ take count given ++ each ∷ [] = rw add-one (take-suc given count other below) in
    let rest : drop count given ≡ each ∷ drop (count + 1) given = rw add-one (drop-cons given count other below) in
    let P : List UpcContract → Type 0 = λ xs. AreGivenContracts xs (made ++ contract ∷ []) in
    record {
      contracts = subst P (sym grown) (made-next (take count given) made each contract so_far.contracts is);
      others = λ fault later. so_far.others fault (subst (λ (xs : List UpcContract). IsFirstContractFault xs fault) (sym rest) (inr (sound, later)));
      many = omega (arith, length-append made (contract ∷ []), so_far.many);
    }

-- The first error is that of the first contract with an error.
pub faulty-first : (given : List UpcContract) (made : List Contract) (count : ℕ) (other : UpcContract) (fault : UpcFault)
    → count < length given → MadeOf given made count → IsContractFault (get_or given count other) fault → IsFirstContractFault given fault
faulty-first given made count other fault below so_far faulty =
    so_far.others fault (subst (λ (xs : List UpcContract). IsFirstContractFault xs fault) (sym (drop-cons given count other below)) (inl faulty))
