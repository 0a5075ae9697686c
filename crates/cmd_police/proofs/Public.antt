-- Lemmas for other crates.
use Rattle.std.proofs.Common.{ℕ, List, Option}
use Rattle.cmd_police.specs.declared.scope.PoliceScope.{PoliceScope}
use Rattle.text_io.specs.declared.ending.Done.{Done}
use Rattle.cmd_police.specs.SetupText.{MayBePolicedAsAgreed}
use Rattle.cmd_police.proofs.Existence as existence

-- A setup script, texts of rules and a capture have a text at the tick that is agreed.
pub some_agreed_text : (scope : PoliceScope) (named asked : Option ℕ) (setup : List ℕ) (texts : List (List ℕ)) (octets : List ℕ)
    → (text : List ℕ) × (done : Done) × MayBePolicedAsAgreed scope named asked setup texts octets text done
some_agreed_text = existence.polices_as_agreed
