-- The hints about rules on the error output, or the message for a failed run.
use Rattle.std.proofs.Common.{◌≡◌, ℕ, true, false, List, Option, Some, None, MatchOption, Result, Ok, Err, IfErr, IfOk}
use Rattle.std.specs.Option.{is_some}
use Rattle.std.specs.Result.{OnOk}
use Rattle.text_io.specs.declared.device.Output.{Ghosts as OutputView}
use Rattle.text_io.specs.declared.ending.Done.{Done}
use Rattle.text_io.specs.declared.ending.RunFault.{RunFault}
use Rattle.text_command_line.specs.Messages.{WritesMessage}
use Rattle.cmd_explain_rules.specs.HintComments.{MayBeHintComments}
use Rattle.upc_lab.specs.RulesRun.{ReportsHints}

pub reports_hints : {Errors : Type 0} (message : RunFault → List ℕ) (octets : List ℕ) (E : OutputView Errors) (errors errors' : Errors) (ended : Result Done RunFault) (comments : List ℕ)
    → IfOk ended (λ done. MayBeHintComments octets comments) → OnOk ended (WritesMessage E errors errors' comments)
    → IfErr ended (λ fault. WritesMessage E errors errors' (message fault)) → ReportsHints message octets E errors errors' ended
reports_hints message octets E errors errors' (Ok done) comments hinted ok failed = (comments, hinted, ok)
reports_hints message octets E errors errors' (Err fault) comments hinted ok failed = failed

-- Words that name no setup script, and words that name one.
pub without_setup : (setup : Option (List ℕ)) (Plain : Type 0) (Hinted : List ℕ → Type 0) → is_some setup ≡ false → Plain → MatchOption setup Plain Hinted
without_setup None Plain Hinted named it = it
without_setup (Some name) Plain Hinted named it = absurd (cc)

pub with_setup : (setup : Option (List ℕ)) (Plain : Type 0) (Hinted : List ℕ → Type 0) → is_some setup ≡ true → ((name : List ℕ) → Hinted name) → MatchOption setup Plain Hinted
with_setup None Plain Hinted named it = absurd (cc)
with_setup (Some name) Plain Hinted named it = it name
