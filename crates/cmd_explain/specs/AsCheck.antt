-- What is proved of the faults that `upc-lab explain` names.
use Rattle.std.specs.Prelude.{◌≡◌, ℕ, List, ◌++◌}
use Rattle.cmd_explain.specs.Explained.{ExplainsSource}
use Rattle.text_io.specs.declared.ending.Done.{Done}
use Rattle.text_io.specs.declared.ending.Done.TheVariants.{Ended}
use Rattle.cmd_programs.specs.Check.{PrintsSource}

-- Both answers end alike, and if they end with a fault, the second begins with the first.
pub record NamesSameFault (checked text : List ℕ) (ended done : Done) : Type 0 where
  pub alike : done ≡ ended
  pub begins : done ≡ Ended → (more : List ℕ) × (text ≡ checked ++ more)

-- The answer of `explain` to a source begins with that of `upc check`, if that is a fault, and is a fault only then.
abbrev pub NamesFaultsOfCheck : Type 0
NamesFaultsOfCheck =
    (source checked text : List ℕ) (ended done : Done) → PrintsSource source checked ended → ExplainsSource source text done → NamesSameFault checked text ended done
