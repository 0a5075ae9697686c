-- One step of a reading of links, and what is said from where it is.
use Rattle.std.specs.Prelude.{◌≡◌, ◌<◌, ℕ, List, length, drop, Result, None}
use Rattle.captures.specs.Frames.{first_frame}
use Rattle.captures.specs.Reading.{ComesNext, IsSamePlace, TakesFrame}
use Rattle.captures.specs.declared.reader.Next.TheVariants.{Broken as BrokenNext}
use Rattle.captures.specs.declared.reader.SkippedBlock.{SkippedBlock}
use Rattle.captures.specs.declared.reader.Record.{Record}
use Rattle.text_io.specs.declared.ending.Done.{Done}
use Rattle.cmd_fit.specs.LinkTallies.{links_given}
use Rattle.cmd_fit.specs.inner.LinkStates.{links_state}
use Rattle.cmd_fit.specs.LinksText.{IsLinksFrom}
use Rattle.cmd_fit.specs.declared.links_reading.StepOutcome.{StepOutcome}
use Rattle.cmd_fit.specs.declared.links_reading.StepOutcome.TheVariants as outcome
use Rattle.cmd_fit.specs.declared.links_reading.LinksReading.{LinksReading}

-- From where the reading is, the text answers the octets.
abbrev pub LinksHere : LinksReading → List ℕ → List ℕ → Done → Type 0
LinksHere reading = IsLinksFrom (links_state reading.table) reading.reader.format reading.reader.count reading.reader.at

-- The reading went on by a frame.
pub record ReadsFrame (before after : LinksReading) : Type 0 where
  pub given : Result Record SkippedBlock
  pub own : ℕ
  pub takes : TakesFrame before.reader before.window given own after.reader
  pub window : after.window ≡ drop own before.window
  pub counted : links_state after.table ≡ links_given (links_state before.table) given

-- More octets are wanted.
pub record WantsMore (before after : LinksReading) : Type 0 where
  pub window : after.window ≡ before.window
  pub place : IsSamePlace before.reader after.reader
  pub table : after.table ≡ before.table
  pub none : first_frame before.reader.format before.reader.at before.window ≡ None
  pub short : length before.window < 131072

-- What a step of the reading does.
abbrev pub StepsLinks : LinksReading → StepOutcome → LinksReading → Type 0
StepsLinks before outcome.GoesOn after = ReadsFrame before after
StepsLinks before outcome.NeedsOctets after = WantsMore before after
StepsLinks before (outcome.Broken fault) after =
    ComesNext before.reader before.window (BrokenNext fault) after.reader × (after.table ≡ before.table)
