-- The starts of lines, as commands and cells change the card.
use Rattle.std.proofs.Common.{◌≡◌, ◌⊎◌, inl, inr, ℕ, zero, suc, ◌+◌, ◌-◌, ◌==◌, ◌<◌, Bool, true, false, if◌then◌else◌, List, [], ◌∷◌, ◌++◌, Option, Some, None, MatchOption, option_map, length, slice_get, refl, sym, ap, ◌∙◌, subst, arith}
use Rattle.std.proofs.lemmas.Bool.Decides.{nat_tests}
use Rattle.std.proofs.lemmas.Option.{same_Some}
use Rattle.card_core.specs.World.{Connection, World, connection_in}
use Rattle.card_core.specs.declared.answer.Answer.{Answer}
use Rattle.leaky.specs.declared.verdict.Verdict.{Verdict}
use Rattle.leaky.specs.declared.verdict.Verdict.TheVariants.{Pass as passes, Tag, Discard, Refuse}
use Rattle.line_record.specs.Tally.{count_of, nothing, tally_of}
use Rattle.line_record.specs.declared.tally.Tally.{Tally}
use Rattle.text_script.specs.ScriptCommands.{Command}
use Rattle.upc_cell.specs.declared.vc.Vc.{Vc}
use Rattle.cmd_run.specs.RunText.{Card, IsLed}
use Rattle.cmd_setups.specs.ConnectionCounts.{own_counts}
use Rattle.cmd_setups.specs.CountsAtSetup.{AreCountsAtSetup, counts_of_line}
use Rattle.cmd_setups.specs.inner.CountsSince.{counts_since}
use Rattle.cmd_setups.specs.Columns.{verdict_given}
use Rattle.cmd_setups.specs.CellsTaken.{TakesCellWithRoom, connection_of_cell}
use Rattle.cmd_setups.specs.inner.NotedSetups.{IsNewIn, NotesLine, NotesSetup, SetsCounts}
use Rattle.cmd_setups.proofs.CountGains.{Gains, LinesApart, count_nothing, room_gains}
use Rattle.cmd_setups.proofs.CommandGains.{Appears, Develops, Stays}

-- A cell changes no start.
pub gains_start : (before after : World) (here : Vc) (given : Option Verdict) (at_setup : List Tally) → Gains before after here given → AreCountsAtSetup at_setup before → AreCountsAtSetup at_setup after
gains_start before after here given at_setup gains are vc next found verdict =
    let gain = gains vc next found in
    let counts = gain.counts verdict in
    let own = gain.own verdict in
    let was = are vc gain.connection gain.found verdict in
    let line = ap (λ n. count_of (counts_of_line at_setup n) verdict) gain.line in
    omega (arith, counts, own, was, line)

pub room_starts : (before after : Card) (cell : List ℕ) (moment : ℕ) (given : Answer) (at_setup : List Tally) → IsLed before → TakesCellWithRoom before cell moment given after
    → AreCountsAtSetup at_setup before.world → AreCountsAtSetup at_setup after.world
room_starts before after cell moment given at_setup led takes are =
    gains_start before.world after.world (connection_of_cell before cell) (verdict_given given) at_setup (room_gains before after cell moment given led takes) are

-- The start of another line than that of a setup stays as it is.
other_line : (after : World) (vc : Vc) (found : Option Connection) (at_setup at_setup' : List Tally) (line : ℕ)
    → ((connection : Connection) → found ≡ Some connection → (line == connection.line) ≡ false) → NotesLine after found at_setup at_setup'
    → counts_of_line at_setup' line ≡ counts_of_line at_setup line
other_line after vc None at_setup at_setup' line apart notes = ap (λ (list : List Tally). counts_of_line list line) notes
other_line after vc (Some connection) at_setup at_setup' line apart notes =
    notes line ∙ ap (λ b. if b then tally_of (after.verdicts connection.line) else counts_of_line at_setup line) (apart connection refl)

stays_start : (before after : World) (command : Option Command) (noted : Option Vc) (at_setup at_setup' : List Tally) (other : Vc) (next : Connection)
    → LinesApart after.connections → IsNewIn before command noted → NotesSetup after noted at_setup at_setup'
    → connection_in after.connections other ≡ Some next → Stays before after other next → counts_of_line at_setup' next.line ≡ counts_of_line at_setup next.line
stays_start before after command None at_setup at_setup' other next apart new notes found stays = ap (λ (list : List Tally). counts_of_line list next.line) notes
stays_start before after command (Some vc) at_setup at_setup' other next apart new notes found stays =
    other_line after vc (connection_in after.connections vc) at_setup at_setup' next.line away notes
  where
    away : (connection : Connection) → connection_in after.connections vc ≡ Some connection → (next.line == connection.line) ≡ false
    away connection there = by (next.line == connection.line) refl
      where
        by : (b : Bool) → (next.line == connection.line) ≡ b → (next.line == connection.line) ≡ false
        by true e =
            let line : next.line ≡ connection.line = grind (arith, nat_tests, e) in
            let same : other ≡ vc = apart other vc next connection found there line in
            let no : None ≡ Some stays.connection =
            sym (new.absent vc refl) ∙ subst (λ (v : Vc). connection_in before.connections v ≡ Some stays.connection) same stays.found in
            cc
        by false e = e

-- The start of the line of a new connection is what the line has counted.
appears_start : (after : World) (found : Option Connection) (at_setup at_setup' : List Tally) (next : Connection) → found ≡ Some next
    → NotesLine after found at_setup at_setup' → counts_of_line at_setup' next.line ≡ tally_of (after.verdicts next.line)
appears_start after None at_setup at_setup' next is notes = cc
appears_start after (Some connection) at_setup at_setup' next is notes =
    let same : connection ≡ next = same_Some connection next is in
    let here : SetsCounts at_setup next.line (tally_of (after.verdicts next.line)) at_setup' =
    subst (λ (c : Connection). SetsCounts at_setup c.line (tally_of (after.verdicts c.line)) at_setup') same notes in
    let itself : (next.line == next.line) ≡ true = grind (arith, nat_tests) in
    here next.line ∙ ap (λ b. if b then tally_of (after.verdicts next.line) else counts_of_line at_setup next.line) itself

-- A line of a script, and then the start of a new connection's line.
pub noted_starts : (before after : World) (command : Option Command) (noted : Option Vc) (at_setup at_setup' : List Tally) → LinesApart after.connections
    → Develops before after command → IsNewIn before command noted → NotesSetup after noted at_setup at_setup' → AreCountsAtSetup at_setup before → AreCountsAtSetup at_setup' after
noted_starts before after command noted at_setup at_setup' apart develops new notes are vc next found verdict = by (develops vc next found)
  where
    by : Stays before after vc next ⊎ Appears before command vc next
        → count_of (tally_of (after.verdicts next.line)) verdict ≡ count_of (counts_of_line at_setup' next.line) verdict + count_of (own_counts next) verdict
    by (inl stays) =
        let start = ap (λ (tally : Tally). count_of tally verdict) (stays_start before after command noted at_setup at_setup' vc next apart new notes found stays) in
        let line = ap (λ n. count_of (counts_of_line at_setup n) verdict) stays.line in
        let counts = stays.counts verdict in
        let own = stays.own verdict in
        let was = are vc stays.connection stays.found verdict in
        omega (arith, start, line, counts, own, was)
    by (inr appears) =
        let here : NotesSetup after (Some vc) at_setup at_setup' =
        subst (λ (v : Option Vc). NotesSetup after v at_setup at_setup') (new.known vc appears.asked appears.none) notes in
        let start = ap (λ (tally : Tally). count_of tally verdict) (appears_start after (connection_in after.connections vc) at_setup at_setup' next found here) in
        let own = ap (λ (tally : Tally). count_of tally verdict) appears.empty in
        let none = count_nothing verdict in
        omega (arith, start, own, none)

-- The counts of a line without those at the start are those of its connection.
pub since_start : (counts start own : Tally) → ((verdict : Verdict) → count_of counts verdict ≡ count_of start verdict + count_of own verdict) → own ≡ counts_since counts start
since_start counts start own sums =
    let p = sums passes in
    let t = sums Tag in
    let d = sums Discard in
    let r = sums Refuse in
    let passed : own.passed ≡ counts.passed - start.passed = omega (arith, p) in
    let tagged : own.tagged ≡ counts.tagged - start.tagged = omega (arith, t) in
    let discarded : own.discarded ≡ counts.discarded - start.discarded = omega (arith, d) in
    let refused : own.refused ≡ counts.refused - start.refused = omega (arith, r) in
    λ i. record { passed = passed i; tagged = tagged i; discarded = discarded i; refused = refused i }

-- ---- the list of starts

-- Places beyond the end are those of no cell.
pub more_places : (at_setup : List Tally) (line : ℕ) → counts_of_line (at_setup ++ nothing ∷ []) line ≡ counts_of_line at_setup line
more_places [] zero = refl
more_places [] (suc line) = refl
more_places (start ∷ at_setup) zero = refl
more_places (start ∷ at_setup) (suc line) = more_places at_setup line
