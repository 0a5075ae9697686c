-- What is proved of the sources that `upc-lab asm` prints.
use Rattle.std.specs.Prelude.{ℕ, List}
use Rattle.rules_text.specs.declared.compiler.CodeWithPlaces.{CodeWithPlaces}
use Rattle.text_io.specs.declared.ending.Done.TheVariants.{Whole}
use Rattle.cmd_rules.specs.AsmText.{PrintsAsmCode}
use Rattle.cmd_rules.specs.RulesText.{PrintsRules}
use Rattle.cmd_programs.specs.Check.{PrintsSource, accepted_text}

-- `upc check` answers such a source as `upc-lab rules` answers the text of the rules.
pub record IsCheckedAlike (text answer : List ℕ) (made : CodeWithPlaces) : Type 0 where
  pub checked : PrintsSource answer (accepted_text made.placed.code.items) Whole
  pub compiled : PrintsRules text (accepted_text made.placed.code.items) Whole

-- For every text, and every answer of `upc-lab asm` to it that is a source.
abbrev pub SourcesAreCheckedAlike : Type 0
SourcesAreCheckedAlike = (text answer : List ℕ) (made : CodeWithPlaces) → PrintsAsmCode text answer made → IsCheckedAlike text answer made
