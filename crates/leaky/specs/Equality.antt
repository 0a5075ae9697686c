-- The definition of `==` on rates, levels and contracts.
use Rattle.std.specs.Prelude.{Bool, false, ◌&&◌, ◌==◌}
use Rattle.leaky.specs.declared.gcra.Gcra.{Gcra}
use Rattle.leaky.specs.declared.levels.Levels.{Levels}
use Rattle.leaky.specs.declared.contract.Contract.{Contract}
use Rattle.leaky.specs.declared.contract.Contract.TheVariants.{Cbr1, Vbr1, Vbr2, Vbr3}

-- Equal increment and equal limit.
abbrev pub gcra_eq : Gcra → Gcra → Bool
gcra_eq a b = (a.increment == b.increment) && (a.limit == b.limit)

-- Equal theoretical arrival times.
abbrev pub levels_eq : Levels → Levels → Bool
levels_eq a b = (a.first == b.first) && (a.second == b.second)

-- Equal kind and equal rates.
abbrev pub contract_eq : Contract → Contract → Bool
contract_eq (Cbr1 a) (Cbr1 b) = gcra_eq a b
contract_eq (Vbr1 a b) (Vbr1 c d) = gcra_eq a c && gcra_eq b d
contract_eq (Vbr2 a b) (Vbr2 c d) = gcra_eq a c && gcra_eq b d
contract_eq (Vbr3 a b) (Vbr3 c d) = gcra_eq a c && gcra_eq b d
contract_eq _ _ = false
