-- What each command of a script does to the connections: one that was there before counts as many more cells as its
-- line, and one that wasn't there was set up by the command.
use Rattle.std.proofs.Common.{◌≡◌, ◌⊎◌, inl, inr, ℕ, ◌+◌, ◌==◌, Bool, true, false, if◌then◌else◌, List, [], ◌∷◌, Option, Some, None, option_map, length, refl, sym, ap, ◌∙◌, subst, arith}
use Rattle.std.proofs.lemmas.Option.{same_Some}
use Rattle.std.specs.Bool.{MatchBool}
use Rattle.std.specs.Option.{MatchOption}
use Rattle.std.specs.Prelude.{is_none, is_some}
use Rattle.bpf_code.specs.declared.instr.Instr.{Instr}
use Rattle.gen_arena.specs.declared.id.Id.{Id}
use Rattle.card_core.specs.Refusals.{load_fault, missing_fault, reload_fault, retire_fault, setup_fault}
use Rattle.card_core.specs.Steps.{FindsNoMemory, IsRefused, SetsUp, WorldStep, new_connection}
use Rattle.card_core.specs.World.{Connection, World, code_in, connection_in, with_connection, without_connection}
use Rattle.card_core.specs.declared.ask.Ask.{Ask}
use Rattle.card_core.specs.declared.fault.DeskFault.{DeskFault}
use Rattle.card_core.specs.declared.fault.DeskFault.TheVariants.{NoProgram, Taken}
use Rattle.card_core.specs.declared.reply.Reply.{Reply}
use Rattle.card_core.specs.declared.reply.Reply.TheVariants.{NotLoaded, NotSetUp, Refused}
use Rattle.card_core.specs.declared.step.Step.{Step}
use Rattle.card_core.specs.declared.step.Step.TheVariants.{Cut, Load, Release, Reload, Retire, Setup}
use Rattle.leaky.specs.declared.gcra.GcraFault.{GcraFault}
use Rattle.leaky.specs.declared.verdict.Verdict.{Verdict}
use Rattle.line_record.specs.Tally.{count_of, nothing, tally_of}
use Rattle.upc_cell.proofs.Public.{vc_itself, vc_same}
use Rattle.upc_cell.specs.Connection.{is_same_vc}
use Rattle.upc_cell.specs.declared.vc.Vc.{Vc}
use Rattle.text_io.specs.Words.{is_silent, words_of}
use Rattle.text_script.specs.ProgramNames.{program_named}
use Rattle.text_script.specs.Rates.{first_wanted_fault}
use Rattle.text_script.specs.ScriptCommands.{Command, load, retire, setup, reload, release, cut, cell, command_of}
use Rattle.text_script.specs.declared.script_words.Wanted.{Wanted}
use Rattle.text_card.specs.CardFaults.{gcra_fault, no_such_program}
use Rattle.text_words.specs.FaultLines.{bad_hex, bad_line, wrong_length}
use Rattle.text_words.specs.Hexadecimal.{cell_of_octets, octets_of_digits}
use Rattle.cmd_programs.specs.Program.{ProgramReading, is_program, is_refused}
use Rattle.cmd_run.specs.RunText.{AsksConnection, Card, IsLed, LoadsOctets, Obeys, OpensOrObeys, PolicesCell, PolicesOctets, RefusesLine, RunSteps, TakesCommand, TakesNamed, TakesReading}
use Rattle.cmd_run.specs.inner.CardSteps.{desk-cases}
use Rattle.cmd_setups.specs.ConnectionCounts.{own_counts}
use Rattle.cmd_setups.specs.Columns.{verdict_given}
use Rattle.cmd_setups.specs.CellsTaken.{connection_of_cell}
use Rattle.cmd_setups.specs.inner.NotedSetups.{set_up_by}
use Rattle.cmd_setups.proofs.CountGains.{Gain, Gains, added, changed_gains, count_on, cut_gains, own_count, put_others, taken_gains, without_others}
use Rattle.cmd_setups.proofs.LeftLemmas.{put_found}

-- The connection was there before, on the same line, and both count as many cells more.
pub record Stays (before after : World) (vc : Vc) (next : Connection) : Type 0 where
  pub connection : Connection
  pub found : connection_in before.connections vc ≡ Some connection
  pub line : next.line ≡ connection.line
  pub more : Verdict → ℕ
  pub counts : (verdict : Verdict) → count_on after next verdict ≡ count_on before connection verdict + more verdict
  pub own : (verdict : Verdict) → own_count next verdict ≡ own_count connection verdict + more verdict

-- The connection wasn't there before. The command set it up, without a cell.
pub record Appears (before : World) (command : Option Command) (vc : Vc) (next : Connection) : Type 0 where
  pub none : connection_in before.connections vc ≡ None
  pub asked : set_up_by command ≡ Some vc
  pub empty : own_counts next ≡ nothing

-- Each connection after the command.
abbrev pub Develops : World → World → Option Command → Type 0
Develops before after command = (vc : Vc) (next : Connection) → connection_in after.connections vc ≡ Some next
    → Stays before after vc next ⊎ Appears before command vc next

-- ---- steps of the card

gains_develop : (before after : World) (here : Vc) (given : Option Verdict) (command : Option Command) → Gains before after here given → Develops before after command
gains_develop before after here given command gains vc next found =
    let gain = gains vc next found in
    inl (record {
      connection = gain.connection;
      found = gain.found;
      line = gain.line;
      more = λ verdict. added (is_same_vc vc here) given verdict;
      counts = gain.counts;
      own = gain.own;
    })

-- A connection that stays as it is, while no cell is judged.
stays_so : (before after : World) (vc : Vc) (next : Connection) → connection_in before.connections vc ≡ Some next → after.verdicts ≡ before.verdicts → Stays before after vc next
stays_so before after vc next found verdicts = record {
  connection = next;
  found = found;
  line = refl;
  more = λ verdict. 0;
  counts = λ verdict.
      let same = ap (λ (of : ℕ → List Verdict). count_of (tally_of (of next.line)) verdict) verdicts in
      omega (arith, same);
  own = λ verdict. omega arith;
}

kept_develop : (before after : World) (command : Option Command) → after.connections ≡ before.connections → after.verdicts ≡ before.verdicts → Develops before after command
kept_develop before after command lists verdicts vc next found =
    inl (stays_so before after vc next (subst (λ (list : List (Vc × Connection)). connection_in list vc ≡ Some next) lists found) verdicts)

same_develop : (before after : World) (command : Option Command) → after ≡ before → Develops before after command
same_develop before after command same = kept_develop before after command (ap (λ (w : World). w.connections) same) (ap (λ (w : World). w.verdicts) same)

load_develops : (before after : World) (code : List Instr) (command : Option Command) (reply : Reply) → WorldStep before (Load code) reply after → Develops before after command
load_develops before after code command reply =
    desk-cases (Develops before after command) (λ fault. NotLoaded fault code) (load_fault before) before after (Load code) reply
    (λ s. kept_develop before after command (ap (λ (w : World). w.connections) s.world) (ap (λ (w : World). w.verdicts) s.world))
    (λ l. same_develop before after command l.world)
    (λ fault r. same_develop before after command r.world)

retire_develops : (before after : World) (id : Id) (command : Option Command) (reply : Reply) → WorldStep before (Retire id) reply after → Develops before after command
retire_develops before after id command reply =
    desk-cases (Develops before after command) (λ fault. Refused fault) (retire_fault before id) before after (Retire id) reply
    (λ s. kept_develop before after command (ap (λ (w : World). w.connections) s.world) (ap (λ (w : World). w.verdicts) s.world))
    (λ l. same_develop before after command l.world)
    (λ fault r. same_develop before after command r.world)

reload_develops : (before after : World) (vc : Vc) (id : Id) (command : Option Command) (reply : Reply) → WorldStep before (Reload vc id) reply after → Develops before after command
reload_develops before after vc id command reply =
    desk-cases (Develops before after command) (λ fault. Refused fault) (reload_fault before vc id) before after (Reload vc id) reply
    (λ s. gains_develop before after vc None command
    (changed_gains before after vc s.connection _ s.found (ap (λ (w : World). w.connections) s.world) (ap (λ (w : World). w.verdicts) s.world) refl refl))
    (λ l. same_develop before after command l.world)
    (λ fault r. same_develop before after command r.world)

-- A connection that was removed isn't there.
gone : (connections : List (Vc × Connection)) (vc : Vc) → connection_in (without_connection connections vc) vc ≡ None
gone [] vc = refl
gone (first ∷ connections) vc = by (is_same_vc vc first.0) refl (gone connections vc)
  where
    by : (b : Bool) → is_same_vc vc first.0 ≡ b → connection_in (without_connection connections vc) vc ≡ None
        → connection_in (if b then without_connection connections vc else first ∷ without_connection connections vc) vc ≡ None
    by true e rest = rest
    by false e rest = ap (λ b. if b then Some first.1 else connection_in (without_connection connections vc) vc) e ∙ rest

still_there : (connections : List (Vc × Connection)) (vc other : Vc) (next : Connection)
    → connection_in (without_connection connections vc) other ≡ Some next → connection_in connections other ≡ Some next
still_there connections vc other next found = by (is_same_vc other vc) refl
  where
    by : (b : Bool) → is_same_vc other vc ≡ b → connection_in connections other ≡ Some next
    by true e =
        let none : None ≡ Some next = sym (gone connections vc) ∙ subst (λ (v : Vc). connection_in (without_connection connections vc) v ≡ Some next) (vc_same other vc e) found in
        cc
    by false e = sym (without_others connections vc other e) ∙ found

release_develops : (before after : World) (vc : Vc) (command : Option Command) (reply : Reply) → WorldStep before (Release vc) reply after → Develops before after command
release_develops before after vc command reply =
    desk-cases (Develops before after command) (λ fault. Refused fault) (missing_fault before vc) before after (Release vc) reply
    (λ s other next found.
    inl (stays_so before after other next
    (still_there before.connections vc other next
    (subst (λ (list : List (Vc × Connection)). connection_in list other ≡ Some next) (ap (λ (w : World). w.connections) s.world) found))
    (ap (λ (w : World). w.verdicts) s.world)))
    (λ l. same_develop before after command l.world)
    (λ fault r. same_develop before after command r.world)

cut_develops : (before after : World) (vc : Vc) (command : Option Command) (reply : Reply) → WorldStep before (Cut vc) reply after → Develops before after command
cut_develops before after vc command reply step = gains_develop before after vc None command (cut_gains before after vc reply step)

-- A setup that isn't refused is of a connection that isn't there.
not_taken : (world : World) (ask : Ask) → setup_fault world ask ≡ None → connection_in world.connections ask.vc ≡ None
not_taken world ask = by (is_none (code_in world.live ask.program)) (connection_in world.connections ask.vc) _
  where
    by : (missing : Bool) (found : Option Connection) (later : Option DeskFault)
        → (if missing then Some NoProgram else if is_some found then Some Taken else later) ≡ None → found ≡ None
    by true found later e = cc
    by false None later e = refl
    by false (Some connection) later e = cc

sets_up : (before after : World) (ask : Ask) (command : Option Command) (reply : Reply) → set_up_by command ≡ Some ask.vc
    → connection_in before.connections ask.vc ≡ None → SetsUp before ask reply after → Develops before after command
sets_up before after ask command reply asked none s vc next found = by (is_same_vc vc ask.vc) refl
  where
    new : Connection
    new = new_connection ask s.line (before.incarnations + 1)

    now : connection_in (with_connection before.connections ask.vc new) vc ≡ Some next
    now = subst (λ (list : List (Vc × Connection)). connection_in list vc ≡ Some next) (ap (λ (w : World). w.connections) s.world) found

    by : (b : Bool) → is_same_vc vc ask.vc ≡ b → Stays before after vc next ⊎ Appears before command vc next
    by true e =
        let same = vc_same vc ask.vc e in
        let is : Some new ≡ Some next =
        sym (put_found before.connections ask.vc new) ∙ subst (λ (v : Vc). connection_in (with_connection before.connections ask.vc new) v ≡ Some next) same now in
        inr (record {
          none = subst (λ (v : Vc). connection_in before.connections v ≡ None) (sym same) none;
          asked = asked ∙ ap Some (sym same);
          empty = ap own_counts (sym (same_Some new next is));
        })
    by false e =
        inl (stays_so before after vc next (sym (put_others before.connections ask.vc vc new e) ∙ now) (ap (λ (w : World). w.verdicts) s.world))

setup_develops : (before after : World) (ask : Ask) (command : Option Command) (reply : Reply) → set_up_by command ≡ Some ask.vc
    → WorldStep before (Setup ask) reply after → Develops before after command
setup_develops before after ask command reply asked = by (setup_fault before ask) refl
  where
    by : (found : Option DeskFault) → setup_fault before ask ≡ found
        → MatchOption (option_map (λ fault. NotSetUp fault ask) found) (SetsUp before ask reply after ⊎ FindsNoMemory before (Setup ask) reply after)
        (λ refused. IsRefused before (Setup ask) refused reply after)
        → Develops before after command
    by None e (inl s) = sets_up before after ask command reply asked (not_taken before ask e) s
    by None e (inr l) = same_develop before after command l.world
    by (Some fault) e r = same_develop before after command r.world

-- ---- commands

refused_develops : (before after : Card) (fault text : List ℕ) (command : Option Command) → RefusesLine fault before text after → Develops before.world after.world command
refused_develops before after fault text command refused = same_develop before.world after.world command (ap (λ (card : Card). card.world) refused.1)

named_develops : (found : Option Id) (before after : Card) (text : List ℕ) (command : Option Command) (TakesWith : Id → List ℕ → Card → Type 0)
    → ((id : Id) → TakesWith id text after → Develops before.world after.world command)
    → MatchOption found (RefusesLine no_such_program before text after) (λ id. TakesWith id text after) → Develops before.world after.world command
named_develops None before after text command TakesWith develops refused = refused_develops before after no_such_program text command refused
named_develops (Some id) before after text command TakesWith develops takes = develops id takes

reading_develops : (before after : Card) (digits text : List ℕ) (command : Option Command) (reading : ProgramReading) → TakesReading before digits reading text after
    → Develops before.world after.world command
reading_develops before after digits text command (is_program code) takes = load_develops before.world after.world code command takes.reply takes.stepped
reading_develops before after digits text command (is_refused fault) refused = refused_develops before after fault text command refused

digits_develop : (before after : Card) (digits text : List ℕ) (command : Option Command) (found : Option (List ℕ))
    → MatchOption found (RefusesLine bad_hex before text after) (λ octets. LoadsOctets before digits octets text after) → Develops before.world after.world command
digits_develop before after digits text command None refused = refused_develops before after bad_hex text command refused
digits_develop before after digits text command (Some octets) loads = reading_develops before after digits text command loads.0 loads.2

wanted_develop : (before after : Card) (vc : Vc) (number : ℕ) (wanted : List Wanted) (text : List ℕ) (found : Option GcraFault)
    → MatchOption found (TakesNamed before (setup vc number wanted) number (AsksConnection before vc number wanted) text after)
    (λ fault. RefusesLine (gcra_fault fault) before text after)
    → Develops before.world after.world (Some (setup vc number wanted))
wanted_develop before after vc number wanted text None takes =
    named_develops (program_named before.names number) before after text (Some (setup vc number wanted)) (AsksConnection before vc number wanted)
    (λ id asks. setup_develops before.world after.world asks.ask (Some (setup vc number wanted)) asks.taken.reply (ap Some (sym asks.connection)) asks.taken.stepped) takes
wanted_develop before after vc number wanted text (Some fault) refused = refused_develops before after _ text (Some (setup vc number wanted)) refused

cell_develops : (before after : Card) (moment : ℕ) (octets text : List ℕ) (command : Option Command) → IsLed before → PolicesCell before moment octets text after
    → Develops before.world after.world command
cell_develops before after moment octets text command led polices =
    gains_develop before.world after.world (connection_of_cell before octets) (verdict_given polices.answer) command
    (taken_gains before after octets moment polices.answer led (record { arrived = polices.arrived; same = polices.same }))

sized_develops : (before after : Card) (moment : ℕ) (octets text : List ℕ) (command : Option Command) → IsLed before → (b : Bool)
    → MatchBool b (PolicesCell before moment octets text after) (RefusesLine (wrong_length (length octets)) before text after)
    → Develops before.world after.world command
sized_develops before after moment octets text command led true polices = cell_develops before after moment octets text command led polices
sized_develops before after moment octets text command led false refused = refused_develops before after _ text command refused

octets_develop : (before after : Card) (moment : ℕ) (text : List ℕ) (command : Option Command) → IsLed before → (found : Option (List ℕ))
    → MatchOption found (RefusesLine bad_hex before text after) (λ octets. PolicesOctets before moment (cell_of_octets octets) text after)
    → Develops before.world after.world command
octets_develop before after moment text command led None refused = refused_develops before after bad_hex text command refused
octets_develop before after moment text command led (Some octets) polices =
    sized_develops before after moment (cell_of_octets octets) text command led (length (cell_of_octets octets) == 52) polices

command_develops : (before after : Card) (text : List ℕ) → IsLed before → (command : Command) → Obeys before command text after
    → Develops before.world after.world (Some command)
command_develops before after text led (load digits) obeys = digits_develop before after digits text (Some (load digits)) (octets_of_digits digits) obeys
command_develops before after text led (retire number) obeys =
    named_develops (program_named before.names number) before after text (Some (retire number)) (λ id. TakesCommand before (retire number) (Retire id))
    (λ id takes. retire_develops before.world after.world id (Some (retire number)) takes.reply takes.stepped) obeys
command_develops before after text led (setup vc number wanted) obeys = wanted_develop before after vc number wanted text (first_wanted_fault wanted) obeys
command_develops before after text led (reload vc number) obeys =
    named_develops (program_named before.names number) before after text (Some (reload vc number)) (λ id. TakesCommand before (reload vc number) (Reload vc id))
    (λ id takes. reload_develops before.world after.world vc id (Some (reload vc number)) takes.reply takes.stepped) obeys
command_develops before after text led (release vc) obeys = release_develops before.world after.world vc (Some (release vc)) obeys.reply obeys.stepped
command_develops before after text led (cut vc) obeys = cut_develops before.world after.world vc (Some (cut vc)) obeys.reply obeys.stepped
command_develops before after text led (cell moment digits) obeys = octets_develop before after moment text (Some (cell moment digits)) led (octets_of_digits digits) obeys

command_line_develops : (before after : Card) (text : List ℕ) → IsLed before → (found : Option Command)
    → MatchOption found (RefusesLine bad_line before text after) (λ command. Obeys before command text after) → Develops before.world after.world found
command_line_develops before after text led None refused = refused_develops before after bad_line text None refused
command_line_develops before after text led (Some command) obeys = command_develops before after text led command obeys

line_develops : (before after : Card) (content text : List ℕ) → IsLed before → (silent : Bool)
    → MatchBool silent ((text ≡ []) × (Some (Some after) ≡ Some (Some before))) (OpensOrObeys (Some before) (words_of content) text (Some (Some after)))
    → Develops before.world after.world (command_of before.world.shape.side (words_of content))
line_develops before after content text led true stays =
    let same : after ≡ before = same_Some after before (same_Some (Some after) (Some before) stays.1) in
    same_develop before.world after.world _ (ap (λ (card : Card). card.world) same)
line_develops before after content text led false (next, obeys, is) =
    let same : after ≡ next = same_Some after next (same_Some (Some after) (Some next) is) in
    subst (λ (card : Card). Develops before.world card.world (command_of before.world.shape.side (words_of content))) (sym same)
    (command_line_develops before next text led (command_of before.world.shape.side (words_of content)) obeys)

-- A line of a script.
pub run_develops : (before after : Card) (content text : List ℕ) → IsLed before → RunSteps (Some before) content text (Some (Some after))
    → Develops before.world after.world (command_of before.world.shape.side (words_of content))
run_develops before after content text led steps = line_develops before after content text led (is_silent (words_of content)) steps
