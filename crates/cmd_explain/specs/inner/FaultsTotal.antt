-- Every text of fault lines has an answer. This law is in `specs/` because the code cites it.
use Rattle.std.specs.Prelude.{ℕ, List}
use Rattle.std.proofs.Common.{refl}
use Rattle.text_io.specs.declared.ending.Done.{Done}
use Rattle.text_io.specs.declared.ending.Done.TheVariants.{Ended}
use Rattle.cmd_explain.specs.FaultSentences.{PrintsFaults, faults_text}

pub faults-answered : (octets : List ℕ) → (text : List ℕ) × (done : Done) × PrintsFaults octets text done
faults-answered octets = (faults_text octets, Ended, (refl, refl))
