-- The answer to a line of a script, as a function of the view of the card alone. Each line is answered so.
use Rattle.std.proofs.Common.{◌≡◌, ℕ, ◌+◌, ◌^◌, ◌<◌, ◌==◌, Bool, true, false, List, ◌++◌, length, Option, Some, None, sym, ap, ◌∙◌, subst}
use Rattle.std.specs.Bool.{MatchBool}
use Rattle.std.specs.Option.{MatchOption}
use Rattle.upc_cell.specs.declared.vc.Vc.{Vc}
use Rattle.gen_arena.specs.declared.id.Id.{Id}
use Rattle.leaky.specs.declared.contract.Contract.{Contract}
use Rattle.leaky.specs.declared.gcra.GcraFault.{GcraFault}
use Rattle.card_core.proofs.Public.{worlds-sound}
use Rattle.card_core.specs.Steps.{WorldStep}
use Rattle.card_core.specs.inner.Sound.{WorldInvariant}
use Rattle.card_core.specs.declared.reply.Reply.{Reply}
use Rattle.card_core.specs.declared.step.Step.{Step}
use Rattle.card_core.specs.declared.step.Step.TheVariants.{Cut, Load, Release, Reload, Retire, Setup}
use Rattle.gen_arena.specs.Slot.{greatest_generation}
use Rattle.text_words.specs.FaultLines.{bad_hex, bad_line, wrong_length}
use Rattle.text_card.specs.CardFaults.{gcra_fault, no_such_program}
use Rattle.text_words.specs.Hexadecimal.{cell_of_octets, octets_of_digits}
use Rattle.cmd_programs.specs.Program.{ReadsAs, ProgramReading, is_program, is_refused}
use Rattle.text_script.specs.Rates.{AreContracts, first_wanted_fault}
use Rattle.text_script.specs.ProgramNames.{program_named}
use Rattle.text_card.specs.Replies.{reply_text}
use Rattle.cmd_run.specs.RunText.{AsksConnection, Card, CommandLine, IsLed, LoadsOctets, Obeys, PolicesCell, PolicesOctets, RefusesLine, TakesCommand, TakesNamed, TakesReading, id_loaded}
use Rattle.text_script.specs.ScriptCommands.{Command, cell, command_of, cut, load, release, reload, retire, setup}
use Rattle.text_script.specs.declared.script_words.Wanted.{Wanted}
use Rattle.cmd_run.proofs.one_script.CellAnswers.{PolicesSeen, cell-comes}
use Rattle.cmd_run.proofs.one_script.CellSteps.{cell-step}
use Rattle.cmd_run.proofs.one_script.ConnectionSteps.{changed_at, seen_setup_fault, set_text, set_up, setup-comes}
use Rattle.cmd_run.proofs.one_script.Numbers.{IsNamed, is_number, length-names, named, named-number, names_of, number_in, unnamed as none_named}
use Rattle.cmd_run.proofs.one_script.ProgramSteps.{load-comes, loaded_text, retire-comes, retired, retired_text, seen_load_fault, seen_retire_fault, with_program}
use Rattle.cmd_run.proofs.one_script.RecordSteps.{cut-comes, cut_text, handed_out, release-comes, released, released_text, reload-comes, reloaded, reloaded_text, seen_missing_fault, seen_reload_fault}
use Rattle.cmd_run.proofs.one_script.Seen.{Seen, seen}
use Rattle.cmd_run.proofs.one_script.HoldsAfter.{Comes, HoldsAfter, JudgedAtMost, answered, left, holds-later, judged-later}

-- The line has this text, if there is one, and leads to this view.
abbrev pub TakesSeen : Option (List ℕ) → Seen → List ℕ → Seen → Type 0
TakesSeen found next text to = (found ≡ Some text) × (to ≡ next)

-- The line has an error and changes nothing.
abbrev pub StaysSeen : Seen → List ℕ → List ℕ → Seen → Type 0
StaysSeen s fault text to = (text ≡ fault) × (to ≡ s)

abbrev pub ReadingSeen : Seen → ProgramReading → List ℕ → Seen → Type 0
ReadingSeen s (is_program code) text to =
    TakesSeen (answered (seen_load_fault s) (loaded_text s)) (left (seen_load_fault s) s (with_program s code)) text to
ReadingSeen s (is_refused fault) text to = StaysSeen s fault text to

abbrev pub LoadsSeen : Seen → List ℕ → List ℕ → Seen → Type 0
LoadsSeen s octets text to = (reading : ProgramReading) × ReadsAs octets reading × ReadingSeen s reading text to

-- The command for the program with a number, if there is one.
abbrev pub NamedSeen : Seen → ℕ → (List ℕ → Seen → Type 0) → List ℕ → Seen → Type 0
NamedSeen s number AnswersSeen text to = MatchBool (is_number s.programs number) (AnswersSeen text to) (StaysSeen s no_such_program text to)

abbrev pub RetiresSeen : Seen → ℕ → List ℕ → Seen → Type 0
RetiresSeen s number text to =
    TakesSeen (answered (seen_retire_fault s number) (retired_text number)) (left (seen_retire_fault s number) s (retired s number)) text to

abbrev pub SetsUpSeen : Seen → Vc → ℕ → List Contract → List ℕ → Seen → Type 0
SetsUpSeen s vc number contracts text to =
    TakesSeen (answered (seen_setup_fault s vc number contracts) (set_text s.shape.side vc))
    (left (seen_setup_fault s vc number contracts) s (set_up s vc number contracts)) text to

abbrev pub AsksSeen : Seen → Vc → ℕ → List Wanted → List ℕ → Seen → Type 0
AsksSeen s vc number wanted text to = (contracts : List Contract) × AreContracts wanted contracts × SetsUpSeen s vc number contracts text to

abbrev pub ReloadsSeen : Seen → Vc → ℕ → List ℕ → Seen → Type 0
ReloadsSeen s vc number text to =
    TakesSeen (answered (seen_reload_fault s vc number) (reloaded_text s.shape.side vc number))
    (left (seen_reload_fault s vc number) s (changed_at s vc (reloaded number))) text to

abbrev pub SizedSeen : Seen → ℕ → List ℕ → List ℕ → Seen → Type 0
SizedSeen s moment octets text to =
    MatchBool (length octets == 52) (PolicesSeen s moment octets text to) (StaysSeen s (wrong_length (length octets)) text to)

-- The answer to a command.
abbrev pub ObeysSeen : Seen → Command → List ℕ → Seen → Type 0
ObeysSeen s (load digits) text to = MatchOption (octets_of_digits digits) (StaysSeen s bad_hex text to) (λ octets. LoadsSeen s octets text to)
ObeysSeen s (retire number) text to = NamedSeen s number (RetiresSeen s number) text to
ObeysSeen s (setup vc number wanted) text to =
    MatchOption (first_wanted_fault wanted) (NamedSeen s number (AsksSeen s vc number wanted) text to) (λ fault. StaysSeen s (gcra_fault fault) text to)
ObeysSeen s (reload vc number) text to = NamedSeen s number (ReloadsSeen s vc number) text to
ObeysSeen s (release vc) text to =
    TakesSeen (answered (seen_missing_fault s vc) (released_text s vc)) (left (seen_missing_fault s vc) s (released s vc)) text to
ObeysSeen s (cut vc) text to =
    TakesSeen (answered (seen_missing_fault s vc) (cut_text s vc)) (left (seen_missing_fault s vc) s (changed_at s vc handed_out)) text to
ObeysSeen s (cell moment digits) text to =
    MatchOption (octets_of_digits digits) (StaysSeen s bad_hex text to) (λ octets. SizedSeen s moment (cell_of_octets octets) text to)

-- The answer to a line.
abbrev pub LineSeen : Seen → List (List ℕ) → List ℕ → Seen → Type 0
LineSeen s words text to =
    MatchOption (command_of s.shape.side words) (StaysSeen s bad_line text to) (λ command. ObeysSeen s command text to)

-- A card after `met` lines, with at most `most` verdicts on a line: a log leads to it, the invariant of its world holds, and
-- its names are those of all programs that were loaded.
pub record IsAfterLines (met most : ℕ) (card : Card) : Type 0 where
  pub led : IsLed card
  pub holds : HoldsAfter met card.world
  pub names : card.names ≡ names_of card.world.loaded
  pub counted : JudgedAtMost most card.world

-- The result of a line: the view decides its answer, and the invariant of the card holds again after one more line.
pub record LineComes (met most : ℕ) (after : Card) (AnswersSeen : Seen → Type 0) : Type 0 where
  pub shown : AnswersSeen (seen after.world)
  pub holds : HoldsAfter (met + 1) after.world
  pub names : after.names ≡ names_of after.world.loaded
  pub counted : JudgedAtMost (most + 1) after.world

module _ (met most : ℕ) (few : met < greatest_generation) (unworn : most < 2 ^ 62) (before : Card) (reached : IsAfterLines met most before) (after : Card) (text : List ℕ) where
  sound : WorldInvariant before.world
  sound = worlds-sound reached.led.shape reached.led.log before.world reached.led.leads

  -- A line that changes nothing.
  refuses-comes : (fault : List ℕ) → RefusesLine fault before text after → LineComes met most after (StaysSeen (seen before.world) fault text)
  refuses-comes fault refuses = record {
    shown = (refuses.0, ap (λ (card : Card). seen card.world) refuses.1);
    holds = subst (λ (card : Card). HoldsAfter (met + 1) card.world) (sym refuses.1) (holds-later met before.world reached.holds);
    names = subst (λ (card : Card). card.names ≡ names_of card.world.loaded) (sym refuses.1) reached.names;
    counted = judged-later most before.world after.world reached.counted (ap (λ (card : Card). card.world.verdicts) refuses.1);
  }

  -- A step of the desk.
  takes-come : (command : Command) (step : Step) (found : Option (List ℕ)) (next : Seen)
      → ((reply : Reply) → WorldStep before.world step reply after.world → reply_text before.world.shape.side command (length before.world.loaded) reply ≡ Some text
      → Comes met before.world after.world reply found text next)
      → TakesCommand before command step text after → LineComes met most after (TakesSeen found next text)
  takes-come command step found next comes takes =
      let many = ap length reached.names ∙ length-names before.world.loaded in
      let printed = subst (λ n. reply_text before.world.shape.side command n takes.reply ≡ Some text) many takes.printed in
      let done = comes takes.reply takes.stepped printed in
      record {
        shown = (done.printed, done.shown);
        holds = done.holds;
        names = takes.named ∙ ap (λ ids. ids ++ id_loaded takes.reply) reached.names ∙ sym done.named;
        counted = judged-later most before.world after.world reached.counted done.judged;
      }

  -- The program that a number names.
  found-comes : (number : ℕ) (TakesWith : Id → List ℕ → Card → Type 0) (AnswersSeen : List ℕ → Seen → Type 0)
      → ((id : Id) → number_in before.world.loaded id ≡ number → 0 < number → TakesWith id text after → LineComes met most after (AnswersSeen text))
      → (found : Option Id) → IsNamed before.world.loaded number found
      → MatchOption found (RefusesLine no_such_program before text after) (λ id. TakesWith id text after)
      → LineComes met most after (NamedSeen (seen before.world) number AnswersSeen text)
  found-comes number TakesWith AnswersSeen comes found (named id there is some) takes =
      let done = comes id is some takes in
      record {
        shown = subst (λ b. MatchBool b (AnswersSeen text (seen after.world)) (StaysSeen (seen before.world) no_such_program text (seen after.world)))
            (sym there) done.shown;
        holds = done.holds;
        names = done.names;
        counted = done.counted;
      }
  found-comes number TakesWith AnswersSeen comes found (none_named missing) refuses =
      let done = refuses-comes no_such_program refuses in
      record {
        shown = subst (λ b. MatchBool b (AnswersSeen text (seen after.world)) (StaysSeen (seen before.world) no_such_program text (seen after.world)))
            (sym missing) done.shown;
        holds = done.holds;
        names = done.names;
        counted = done.counted;
      }

  named-comes : (command : Command) (number : ℕ) (TakesWith : Id → List ℕ → Card → Type 0) (AnswersSeen : List ℕ → Seen → Type 0)
      → ((id : Id) → number_in before.world.loaded id ≡ number → 0 < number → TakesWith id text after → LineComes met most after (AnswersSeen text))
      → TakesNamed before command number TakesWith text after
      → LineComes met most after (NamedSeen (seen before.world) number AnswersSeen text)
  named-comes command number TakesWith AnswersSeen comes takes =
      found-comes number TakesWith AnswersSeen comes (program_named (names_of before.world.loaded) number)
      (named-number before.world.loaded reached.holds.programs.once number)
      (subst (λ ids. MatchOption (program_named ids number) (RefusesLine no_such_program before text after) (λ id. TakesWith id text after)) reached.names takes)

  -- A program is loaded.
  reading-comes : (digits : List ℕ) (reading : ProgramReading) → TakesReading before digits reading text after
      → LineComes met most after (ReadingSeen (seen before.world) reading text)
  reading-comes digits (is_program code) takes =
      takes-come (load digits) (Load code) (answered (seen_load_fault (seen before.world)) (loaded_text (seen before.world)))
      (left (seen_load_fault (seen before.world)) (seen before.world) (with_program (seen before.world) code))
      (λ reply step printed. load-comes met before.world after.world code digits reply text reached.holds sound few printed step) takes
  reading-comes digits (is_refused fault) refuses = refuses-comes fault refuses

  loads-come : (digits octets : List ℕ) → LoadsOctets before digits octets text after → LineComes met most after (LoadsSeen (seen before.world) octets text)
  loads-come digits octets loads =
      let done = reading-comes digits loads.0 loads.2 in
      record { shown = (loads.0, loads.1, done.shown); holds = done.holds; names = done.names; counted = done.counted }

  load-line : (digits : List ℕ) (octets : Option (List ℕ))
      → MatchOption octets (RefusesLine bad_hex before text after) (λ found. LoadsOctets before digits found text after)
      → LineComes met most after (λ to. MatchOption octets (StaysSeen (seen before.world) bad_hex text to) (λ found. LoadsSeen (seen before.world) found text to))
  load-line digits None refuses = refuses-comes bad_hex refuses
  load-line digits (Some octets) loads = loads-come digits octets loads

  -- A program is retired.
  retire-line : (number : ℕ) → Obeys before (retire number) text after → LineComes met most after (ObeysSeen (seen before.world) (retire number) text)
  retire-line number takes =
      named-comes (retire number) number (λ id. TakesCommand before (retire number) (Retire id)) (RetiresSeen (seen before.world) number)
      (λ id is some taken.
      takes-come (retire number) (Retire id) (answered (seen_retire_fault (seen before.world) number) (retired_text number))
      (left (seen_retire_fault (seen before.world) number) (seen before.world) (retired (seen before.world) number))
      (λ reply step printed.
      subst (λ n. Comes met before.world after.world reply (answered (seen_retire_fault (seen before.world) n) (retired_text number)) text
      (left (seen_retire_fault (seen before.world) n) (seen before.world) (retired (seen before.world) n)))
      is (retire-comes met before.world after.world id number reply text reached.holds printed step)) taken) takes

  -- A connection is given another program.
  reload-line : (vc : Vc) (number : ℕ) → Obeys before (reload vc number) text after → LineComes met most after (ObeysSeen (seen before.world) (reload vc number) text)
  reload-line vc number takes =
      named-comes (reload vc number) number (λ id. TakesCommand before (reload vc number) (Reload vc id)) (ReloadsSeen (seen before.world) vc number)
      (λ id is some taken.
      takes-come (reload vc number) (Reload vc id) (answered (seen_reload_fault (seen before.world) vc number) (reloaded_text before.world.shape.side vc number))
      (left (seen_reload_fault (seen before.world) vc number) (seen before.world) (changed_at (seen before.world) vc (reloaded number)))
      (λ reply step printed.
      subst (λ n. Comes met before.world after.world reply (answered (seen_reload_fault (seen before.world) vc n) (reloaded_text before.world.shape.side vc number)) text
      (left (seen_reload_fault (seen before.world) vc n) (seen before.world) (changed_at (seen before.world) vc (reloaded n))))
      is (reload-comes met before.world after.world vc id number reply text reached.holds (subst (λ n. 0 < n) (sym is) some) printed step)) taken) takes

  -- A connection is set up.
  asks-come : (vc : Vc) (number : ℕ) (wanted : List Wanted) (id : Id) → number_in before.world.loaded id ≡ number → 0 < number
      → AsksConnection before vc number wanted id text after → LineComes met most after (AsksSeen (seen before.world) vc number wanted text)
  asks-come vc number wanted id is some asks =
      let contracts = asks.ask.contracts.items in
      let own : number_in before.world.loaded asks.ask.program ≡ number = ap (number_in before.world.loaded) asks.program ∙ is in
      let done = takes-come (setup vc number wanted) (Setup asks.ask)
      (answered (seen_setup_fault (seen before.world) vc number contracts) (set_text before.world.shape.side vc))
      (left (seen_setup_fault (seen before.world) vc number contracts) (seen before.world) (set_up (seen before.world) vc number contracts))
      (λ reply step printed.
      subst (λ (at : Vc). Comes met before.world after.world reply (answered (seen_setup_fault (seen before.world) at number contracts) (set_text before.world.shape.side vc)) text
      (left (seen_setup_fault (seen before.world) at number contracts) (seen before.world) (set_up (seen before.world) at number contracts)))
      asks.connection
      (subst (λ n. Comes met before.world after.world reply (answered (seen_setup_fault (seen before.world) asks.ask.vc n contracts) (set_text before.world.shape.side vc)) text
      (left (seen_setup_fault (seen before.world) asks.ask.vc n contracts) (seen before.world) (set_up (seen before.world) asks.ask.vc n contracts)))
      own
      (setup-comes met before.world after.world asks.ask vc number wanted reply text reached.holds (subst (λ n. 0 < n) (sym own) some) printed step)))
      asks.taken in
      record { shown = (contracts, asks.contracts, done.shown); holds = done.holds; names = done.names; counted = done.counted }

  setup-line : (vc : Vc) (number : ℕ) (wanted : List Wanted) (found : Option GcraFault)
      → MatchOption found (TakesNamed before (setup vc number wanted) number (AsksConnection before vc number wanted) text after)
      (λ fault. RefusesLine (gcra_fault fault) before text after)
      → LineComes met most after (λ to. MatchOption found (NamedSeen (seen before.world) number (AsksSeen (seen before.world) vc number wanted) text to)
      (λ fault. StaysSeen (seen before.world) (gcra_fault fault) text to))
  setup-line vc number wanted None takes =
      named-comes (setup vc number wanted) number (AsksConnection before vc number wanted) (AsksSeen (seen before.world) vc number wanted)
      (λ id is some asks. asks-come vc number wanted id is some asks) takes
  setup-line vc number wanted (Some fault) refuses = refuses-comes (gcra_fault fault) refuses

  -- A cell arrives.
  polices-come : (moment : ℕ) (octets : List ℕ) → PolicesCell before moment octets text after
      → LineComes met most after (PolicesSeen (seen before.world) moment octets text)
  polices-come moment octets polices =
      let done = cell-step met before.world after.world moment octets polices.answer reached.holds reached.led.free polices.arrived in
      record {
        shown = cell-comes met most before.world after.world before.names moment octets polices.answer text reached.holds reached.counted unworn sound reached.names
            polices.printed done.case;
        holds = done.holds;
        names = polices.same ∙ reached.names ∙ ap names_of (sym done.same);
        counted = done.counted most reached.counted;
      }

  sized-line : (moment : ℕ) (octets : List ℕ) (b : Bool)
      → MatchBool b (PolicesCell before moment octets text after) (RefusesLine (wrong_length (length octets)) before text after)
      → LineComes met most after (λ to. MatchBool b (PolicesSeen (seen before.world) moment octets text to) (StaysSeen (seen before.world) (wrong_length (length octets)) text to))
  sized-line moment octets true polices = polices-come moment octets polices
  sized-line moment octets false refuses = refuses-comes (wrong_length (length octets)) refuses

  cell-line : (moment : ℕ) (octets : Option (List ℕ))
      → MatchOption octets (RefusesLine bad_hex before text after) (λ found. PolicesOctets before moment (cell_of_octets found) text after)
      → LineComes met most after (λ to. MatchOption octets (StaysSeen (seen before.world) bad_hex text to) (λ found. SizedSeen (seen before.world) moment (cell_of_octets found) text to))
  cell-line moment None refuses = refuses-comes bad_hex refuses
  cell-line moment (Some octets) polices = sized-line moment (cell_of_octets octets) (length (cell_of_octets octets) == 52) polices

  -- A command.
  obeys-come : (command : Command) → Obeys before command text after → LineComes met most after (ObeysSeen (seen before.world) command text)
  obeys-come (load digits) obeys = load-line digits (octets_of_digits digits) obeys
  obeys-come (retire number) obeys = retire-line number obeys
  obeys-come (setup vc number wanted) obeys = setup-line vc number wanted (first_wanted_fault wanted) obeys
  obeys-come (reload vc number) obeys = reload-line vc number obeys
  obeys-come (release vc) obeys =
      takes-come (release vc) (Release vc) (answered (seen_missing_fault (seen before.world) vc) (released_text (seen before.world) vc))
      (left (seen_missing_fault (seen before.world) vc) (seen before.world) (released (seen before.world) vc))
      (λ reply step printed. release-comes met before.world after.world vc reply text reached.holds printed step) obeys
  obeys-come (cut vc) obeys =
      takes-come (cut vc) (Cut vc) (answered (seen_missing_fault (seen before.world) vc) (cut_text (seen before.world) vc))
      (left (seen_missing_fault (seen before.world) vc) (seen before.world) (changed_at (seen before.world) vc handed_out))
      (λ reply step printed. cut-comes met before.world after.world vc reply text reached.holds printed step) obeys
  obeys-come (cell moment digits) obeys = cell-line moment (octets_of_digits digits) obeys

  words-come : (found : Option Command) → MatchOption found (RefusesLine bad_line before text after) (λ command. Obeys before command text after)
      → LineComes met most after (λ to. MatchOption found (StaysSeen (seen before.world) bad_line text to) (λ command. ObeysSeen (seen before.world) command text to))
  words-come None refuses = refuses-comes bad_line refuses
  words-come (Some command) obeys = obeys-come command obeys

  -- A line with words.
  pub line-comes : (words : List (List ℕ)) → CommandLine before words text after → LineComes met most after (LineSeen (seen before.world) words text)
  line-comes words line = words-come (command_of before.world.shape.side words) line
