-- Replies that a card with threads may give and a core never gives.
use Rattle.std.specs.Prelude.{◌≡◌, Bool, true, false, List}
use Rattle.card_core.specs.declared.answer.Answer.TheVariants.{Stale as StaleAnswer}
use Rattle.card_core.specs.declared.fault.DeskFault.TheVariants.{Stale}
use Rattle.card_core.specs.declared.reply.Reply.{Reply}
use Rattle.card_core.specs.declared.reply.Reply.TheVariants.{Answered, NotLoaded, NotSetUp, Refused}
use Rattle.card_core.specs.declared.shape.Shape.{Shape}
use Rattle.card_core.specs.World.{World}
use Rattle.card_core.specs.Log.{Event, Leads}
use Rattle.card_core.specs.Agreement.{CoreView, CoreAgrees}

-- Whether the reply is Stale: a program or a line is no longer as it was found.
abbrev pub is_stale : Reply → Bool
is_stale (Answered StaleAnswer) = true
is_stale (NotLoaded Stale code) = true
is_stale (NotSetUp Stale ask) = true
is_stale (Refused Stale) = true
is_stale _ = false

-- If the core agrees with a world that some log leads to, the reply isn't Stale.
abbrev pub IsNeverStale : CoreView → Reply → Type 0
IsNeverStale core reply = (shape : Shape) (log : List Event) (before : World)
    → Leads shape log before → CoreAgrees core before → is_stale reply ≡ false
