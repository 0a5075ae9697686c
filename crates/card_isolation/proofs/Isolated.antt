-- A connection's own events in a log are those that it has on its own, so its acts determine them.
use Rattle.std.proofs.Common.{◌≡◌, ℕ, ◌+◌, ◌^◌, zero, suc, ◌≤◌, false, List, [], ◌∷◌, ◌++◌, length, replicate, Option, Some, None, slice_get, refl, sym, ◌∙◌, subst, arith}
use Rattle.upc_cell.specs.declared.side.Side.{Side}
use Rattle.upc_cell.specs.declared.vc.Vc.{Vc}
use Rattle.card_core.specs.declared.shape.Shape.{Shape}
use Rattle.card_core.specs.World.{World, outside, opening_world}
use Rattle.card_core.specs.Log.{Event, Run, Leads}
use Rattle.card_core.proofs.Public.{worlds-sound, log-goes_on}
use Rattle.card_isolation.specs.OwnEvents.{OwnEvent, Notes, opening_notes, notes_after, own_event, with_event, own_events_after, own_events}
use Rattle.card_isolation.specs.Isolation.{account_of, ConnectionsAreIsolated}
use Rattle.card_isolation.specs.ByArrival.{opening_arrivals}
use Rattle.card_isolation.proofs.Renumbered.{Matches, plays-numbered}
use Rattle.card_isolation.proofs.Basics.{pointwise}
use Rattle.card_isolation.proofs.Alone.{Place, idle, Alone, Plays, same-outcomes}
use Rattle.card_isolation.proofs.Views.{place_of, has_own_in, alone_in, notes_in, Goes, StepEffect, same-notes}
use Rattle.card_isolation.proofs.Steps.{HasJudgedFew, step-effect}

-- One event and the later ones.
plays-after : (journal : ℕ) (event : Option OwnEvent) (before after : Alone) (later : List OwnEvent)
    → Goes journal event before after → Plays journal after later → Plays journal before (with_event event later)
plays-after journal None before after later same plays = subst (λ (a : Alone). Plays journal a later) same plays
plays-after journal (Some event) before after later does plays = (after, does, plays)

-- The events of a log.
module _ (vc : Vc) (shape : Shape) where
  plays-later : (so_far log : List Event) (before after : World) → Leads shape so_far before → Run before log after
      → before.shape ≡ shape → (taken : ℕ) → ((line : ℕ) → length (before.verdicts line) ≤ taken) → taken + length log ≤ 2 ^ 62
      → Plays shape.journal (alone_in vc before) (own_events_after shape.side vc (notes_in vc before) log)
  plays-later so_far [] before after leads run is taken counted within = tt
  plays-later so_far (event ∷ log) before after leads run is taken counted within =
      let next : World = run.0 in
      let few : HasJudgedFew before = λ line. omega (arith, counted line, within) in
      let effect : StepEffect vc before event.step event.reply next =
      step-effect vc before event.step event.reply next (worlds-sound shape so_far before leads) few run.1 in
      let goes : Goes shape.journal (own_event shape.side vc (notes_in vc before) event.reply event.step) (alone_in vc before) (alone_in vc next) =
      subst (λ (s : Shape). Goes s.journal (own_event s.side vc (notes_in vc before) event.reply event.step) (alone_in vc before) (alone_in vc next))
      is effect.own in
      let notes : notes_after shape.side vc (notes_in vc before) event ≡ notes_in vc next =
      subst (λ (s : Shape). notes_after s.side vc (notes_in vc before) event ≡ notes_in vc next) is effect.notes in
      let later : Plays shape.journal (alone_in vc next) (own_events_after shape.side vc (notes_in vc next) log) =
      plays-later (so_far ++ event ∷ []) log next after
      (log-goes_on (opening_world shape) before next so_far event.step event.reply leads run.1) run.2 (effect.shape ∙ is) (suc taken)
      (λ line. omega (arith, effect.counts line, counted line)) (omega (arith, within)) in
      plays-after shape.journal (own_event shape.side vc (notes_in vc before) event.reply event.step) (alone_in vc before) (alone_in vc next)
      (own_events_after shape.side vc (notes_after shape.side vc (notes_in vc before) event) log) goes
      (subst (λ (n : Notes). Plays shape.journal (alone_in vc next) (own_events_after shape.side vc n log)) (sym notes) later)

-- Initially.

no-place : (side : Side) (vc : Vc) (ports port : ℕ) → place_of side vc [] None (slice_get (replicate ports outside) port) ≡ idle
no-place side vc zero port = refl
no-place side vc (suc ports) zero = refl
no-place side vc (suc ports) (suc port) = no-place side vc ports port

pub no-own : (side : Side) (vc : Vc) (ports port : ℕ) → has_own_in side vc (slice_get (replicate ports outside) port) ≡ false
no-own side vc zero port = refl
no-own side vc (suc ports) zero = refl
no-own side vc (suc ports) (suc port) = no-own side vc ports port

abbrev nothing : Alone
nothing = record { connection = None; places = λ port. idle }

plays-log : (vc : Vc) (shape : Shape) (log : List Event) (world : World) → Leads shape log world → length log ≤ 2 ^ 62
    → Plays shape.journal nothing (own_events shape.side vc log)
plays-log vc shape log world leads within =
    let opening : World = opening_world shape in
    let plays : Plays shape.journal (alone_in vc opening) (own_events_after shape.side vc (notes_in vc opening) log) =
    plays-later vc shape [] log opening world refl leads refl 0 (λ line. omega (arith)) (omega (arith, within)) in
    let places : (alone_in vc opening).places ≡ nothing.places =
    pointwise (alone_in vc opening).places nothing.places (λ port. no-place shape.side vc shape.ports port) in
    let notes : notes_in vc opening ≡ opening_notes =
    same-notes (notes_in vc opening) opening_notes refl (λ port. no-own shape.side vc shape.ports port) in
    subst (λ (p : ℕ → Place). Plays shape.journal (record { connection = None; places = p }) (own_events_after shape.side vc opening_notes log)) places
    (subst (λ (n : Notes). Plays shape.journal (alone_in vc opening) (own_events_after shape.side vc n log)) notes plays)

-- Initially no port has a cell, so any numbers match.
nothing-matches : Matches opening_arrivals nothing nothing
nothing-matches = record {
  connection = refl;
  places = λ port e. absurd (cc);
  early = λ port e. absurd (cc);
  apart = λ one other e e_too. absurd (cc);
}

plays-account : (vc : Vc) (shape : Shape) (log : List Event) (world : World) → Leads shape log world → length log ≤ 2 ^ 62
    → Plays shape.journal nothing (account_of shape.side vc log)
plays-account vc shape log world leads within =
    plays-numbered shape.journal opening_arrivals nothing nothing (own_events shape.side vc log) nothing-matches
    (plays-log vc shape log world leads within)

pub isolated : ConnectionsAreIsolated
isolated shape other log another vc is is_too side journal within within_too acts =
    let theirs : Plays shape.journal nothing (account_of other.side vc another) =
    subst (λ j. Plays j nothing (account_of other.side vc another)) (sym journal)
    (plays-account vc other another is_too.0 is_too.1 within_too) in
    same-outcomes shape.journal nothing (account_of shape.side vc log) (account_of other.side vc another)
    (plays-account vc shape log is.0 is.1 within) theirs acts
