-- Lemmas for other crates.
use Rattle.std.proofs.Common.{ℕ, Bool, List}
use Rattle.text_io.specs.declared.ending.Done.{Done}
use Rattle.cmd_rules.specs.RulesText.{MayBeRulesText}
use Rattle.cmd_rules.specs.WhyText.{MayBeWhyText}
use Rattle.cmd_rules.specs.AsmText.{MayBeAsmText}
use Rattle.cmd_rules.proofs.WholeAnswers as answering
use Rattle.cmd_rules.proofs.WhyAnswers as why
use Rattle.cmd_rules.specs.declared.whole_text.Printed.TheVariants.{Octets, Source}

-- Every input has an answer of `rules`, or its code may be too long.
pub some-rules_text : (octets : List ℕ) → (answer : List ℕ) × (done : Done) × MayBeRulesText octets answer done
some-rules_text = answering.some-answer Octets

-- Every input has an answer of `why`, or its code may be too long.
pub some-why_text : (counts : Bool) (octets : List ℕ) → (answer : List ℕ) × (done : Done) × MayBeWhyText counts octets answer done
some-why_text = why.some-why_text

-- Every input has an answer of `asm`, or its code may be too long.
pub some-asm_text : (octets : List ℕ) → (answer : List ℕ) × (done : Done) × MayBeAsmText octets answer done
some-asm_text = answering.some-answer Source
