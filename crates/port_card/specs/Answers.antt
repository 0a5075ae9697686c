-- The answers of a running card, as contracts state them.
use Rattle.std.specs.Prelude.{◌≡◌, ◌<◌, ◌^◌, ◌≤◌, ℕ, ⊤, List}
use Rattle.leaky.specs.declared.verdict.Verdict.TheVariants.{Refuse}
use Rattle.line_record.specs.History.{IsNoNumber}
use Rattle.card_core.specs.declared.answer.Answer.{Answer}
use Rattle.card_core.specs.declared.answer.Answer.TheVariants.{MomentTooLate, MomentBack}
use Rattle.card_core.specs.declared.fault.DeskFault.{DeskFault}
use Rattle.card_core.specs.declared.fault.DeskFault.TheVariants.{NoProgram, NoConnection, Taken, BadContracts, NoLine, InUse, Exhausted, Stale, NoMemory}
use Rattle.card_core.specs.Sections.{JudgedView}
use Rattle.card_core.specs.Steps.{cell_after}

-- A judged cell that arrived at this moment: the moment is in the answer and is at most 2^62. The cell leaves tagged if
-- the verdict is Tag, otherwise unchanged. If the value is no contract's number, the verdict is Refuse. Where the value
-- comes from isn't part of this: the programs are behind a lock.
pub record IsJudgedAnswer (cell : List ℕ) (moment : ℕ) (judged : JudgedView) : Type 0 where
  pub same_moment : judged.moment ≡ moment
  pub in_time : moment ≤ 2 ^ 62
  pub leaves : judged.cell ≡ cell_after judged.verdict cell
  pub unnamed : IsNoNumber judged.value → judged.verdict ≡ Refuse

-- If the answer is MomentTooLate, the moment is above 2^62. If it is MomentBack, the moment is before the one in the
-- answer.
abbrev pub BlamesRightly : ℕ → Answer → Type 0
BlamesRightly moment MomentTooLate = 2 ^ 62 < moment
BlamesRightly moment (MomentBack last) = moment < last
BlamesRightly moment _ = ⊤

-- The errors of a setup.
abbrev pub IsOfSetup : DeskFault → Type 0
IsOfSetup NoProgram = ⊤
IsOfSetup Taken = ⊤
IsOfSetup BadContracts = ⊤
IsOfSetup NoLine = ⊤
IsOfSetup Exhausted = ⊤
IsOfSetup Stale = ⊤
IsOfSetup NoMemory = ⊤
IsOfSetup _ = ⊥

-- The errors of a retirement.
abbrev pub IsOfRetirement : DeskFault → Type 0
IsOfRetirement NoProgram = ⊤
IsOfRetirement InUse = ⊤
IsOfRetirement _ = ⊥

-- The errors of a reload.
abbrev pub IsOfReload : DeskFault → Type 0
IsOfReload NoProgram = ⊤
IsOfReload NoConnection = ⊤
IsOfReload _ = ⊥

-- The errors of a release.
abbrev pub IsOfRelease : DeskFault → Type 0
IsOfRelease NoConnection = ⊤
IsOfRelease Stale = ⊤
IsOfRelease _ = ⊥

-- The errors of a cut.
abbrev pub IsOfCut : DeskFault → Type 0
IsOfCut NoConnection = ⊤
IsOfCut Stale = ⊤
IsOfCut NoMemory = ⊤
IsOfCut _ = ⊥
