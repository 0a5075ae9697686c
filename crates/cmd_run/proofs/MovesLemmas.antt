-- How a command changes the stored card.
use Rattle.std.proofs.Common.{◌≡◌, ℕ, List, [], ◌++◌, length, Option, Some, None, Result, OnOk, Ok, Err, refl, sym, ap, ◌∙◌, subst}
use Rattle.std.proofs.lemmas.List.{append-nil}
use Rattle.std.specs.Option.{MatchOption}
use Rattle.bpf_code.specs.declared.instr.Instr.{Instr}
use Rattle.gen_arena.specs.declared.id.Id.{Id}
use Rattle.leaky.specs.declared.contract.Contract.{Contract}
use Rattle.leaky.specs.declared.gcra.GcraFault.{GcraFault}
use Rattle.upc_cell.specs.declared.vc.Vc.{Vc}
use Rattle.card_core.specs.declared.ask.Ask.{Ask}
use Rattle.card_core.specs.declared.step.Step.TheVariants.{Load, Setup}
use Rattle.card_core.specs.Agreement.{Follows}
use Rattle.card_core.specs.Steps.{WorldStep}
use Rattle.card_core.specs.World.{World}
use Rattle.card_core.specs.declared.reply.Reply.{Reply}
use Rattle.card_core.specs.declared.step.Step.{Step}
use Rattle.upc_cell.specs.declared.side.Side.{Side}
use Rattle.text_words.specs.FaultLines.{bad_hex, bad_line}
use Rattle.text_card.specs.CardFaults.{gcra_fault, no_such_program}
use Rattle.text_words.specs.Hexadecimal.{octets_of_digits}
use Rattle.cmd_programs.specs.Program.{is_program, ReadsAs}
use Rattle.text_script.specs.Rates.{AreContracts, first_wanted_fault}
use Rattle.text_script.specs.ProgramNames.{program_named}
use Rattle.text_card.specs.Replies.{reply_text}
use Rattle.cmd_run.specs.RunText.{AsksConnection, Card, CommandLine, LoadsOctets, Obeys, RefusesLine, TakesCommand, TakesNamed, id_loaded}
use Rattle.text_script.specs.ScriptCommands.{Command, command_of, load, setup}
use Rattle.text_script.specs.declared.script_words.Wanted.{Wanted}
use Rattle.cmd_run.specs.ShownCard.{Held, Moves, MovesBy, ShowsCard}
use Rattle.cmd_run.specs.inner.Policing.{ObeysSeen}

-- A command that is refused before a step is taken.
pub moves-refused : (Goes : Card → List ℕ → Card → Type 0) (held : Held) (fault old new : List ℕ) → new ≡ old ++ fault
    → ((before : Card) → ShowsCard held before → Goes before fault before) → Moves Goes held held old new
moves-refused Goes held fault old new added goes = (fault, added, λ before led shows. (before, shows, goes before shows))

-- The represented card after a step.
taken : (held held' : Held) (side : Side) (command : Command) (step : Step) (reply : Reply) (text : List ℕ) → held.core.shape.side ≡ side
    → Follows held.core step reply held'.core → held'.names ≡ held.names ++ id_loaded reply
    → ((before after : World) → WorldStep before step reply after → reply_text side command (length held.names) reply ≡ Some text)
    → MovesBy (λ before. TakesCommand before command step) held text held'
taken held held' side command step reply text is follows named printed before led shows =
    let on = follows led.shape led.log before.world led.leads shows.agrees in
    let names : held'.names ≡ before.names ++ id_loaded reply = named ∙ ap (λ (ids : List Id). ids ++ id_loaded reply) shows.names in
    let count : length held.names ≡ length before.names = ap length shows.names in
    let here : side ≡ before.world.shape.side = sym is ∙ ap (λ s. s.side) shows.agrees.shape in (
      record { world = on.after; names = before.names ++ id_loaded reply },
      record { agrees = on.agrees; names = names },
      record {
        reply = reply;
        stepped = on.stepped;
        named = refl;
        printed =
            ap (λ s. reply_text s command (length before.names) reply) (sym here)
            ∙ ap (λ n. reply_text side command n reply) (sym count) ∙ printed before.world on.after on.stepped;
      },
    )

-- A step of the desk whose reply is appended.
pub moves-taken : (held held' : Held) (side : Side) (command : Command) (step : Step) (reply : Reply) (text old new : List ℕ) → held.core.shape.side ≡ side
    → Follows held.core step reply held'.core → held'.names ≡ held.names ++ id_loaded reply → new ≡ old ++ text
    → ((before after : World) → WorldStep before step reply after → reply_text side command (length held.names) reply ≡ Some text)
    → Moves (λ before. TakesCommand before command step) held held' old new
moves-taken held held' side command step reply text old new is follows named added printed =
    (text, added, taken held held' side command step reply text is follows named printed)

-- A program that has a name, and one that has none.
pub moves-named : (TakesWith : Card → Id → List ℕ → Card → Type 0) (command : Command) (number : ℕ) (id : Id) (held held' : Held) (old new : List ℕ)
    → program_named held.names number ≡ Some id → Moves (λ before. TakesWith before id) held held' old new
    → Moves (λ before. TakesNamed before command number (TakesWith before)) held held' old new
moves-named TakesWith command number id held held' old new is moves = (
  moves.0,
  moves.1,
  λ before led shows.
      let on = moves.2 before led shows in
      let found : program_named before.names number ≡ Some id = ap (λ (ids : List Id). program_named ids number) (sym shows.names) ∙ is in
      (on.0, on.1, subst (λ (named : Option Id). MatchOption named (RefusesLine no_such_program before moves.0 on.0) (λ here. TakesWith before here moves.0 on.0)) (sym found) on.2),
)

pub moves-unnamed : (TakesWith : Card → Id → List ℕ → Card → Type 0) (command : Command) (number : ℕ) (held : Held) (old new : List ℕ)
    → program_named held.names number ≡ None → new ≡ old ++ no_such_program
    → Moves (λ before. TakesNamed before command number (TakesWith before)) held held old new
moves-unnamed TakesWith command number held old new none added =
    moves-refused (λ before. TakesNamed before command number (TakesWith before)) held no_such_program old new added (λ before shows.
    let missed : program_named before.names number ≡ None = ap (λ (ids : List Id). program_named ids number) (sym shows.names) ∙ none in
    subst (λ (named : Option Id). MatchOption named (RefusesLine no_such_program before no_such_program before) (λ here. TakesWith before here no_such_program before))
    (sym missed) (refl, refl))

pub on-ok : {E P Q : Type 0} → (result : Result (Unit {0}) E) → OnOk result P → (P → Q) → OnOk result Q
on-ok (Ok done) had goes = goes had
on-ok (Err error) had goes = tt

-- Names to which a step appends none.
pub no-name : (names : List Id) → names ≡ names ++ []
no-name names = sym (append-nil names)

-- Two equal stored cards, of which one changes.
pub moves-at : (Goes : Card → List ℕ → Card → Type 0) (kept held held' : Held) (old new : List ℕ) → kept ≡ held
    → Moves Goes kept held' old new → Moves Goes held held' old new
moves-at Goes kept held held' old new same moves = subst (λ (here : Held). Moves Goes here held' old new) same moves

-- A fact about each change gives the same change with that fact.
pub moves-map : (Goes Answers : Card → List ℕ → Card → Type 0) (held held' : Held) (old new : List ℕ)
    → ((before after : Card) (text : List ℕ) → Goes before text after → Answers before text after)
    → Moves Goes held held' old new → Moves Answers held held' old new
moves-map Goes Answers held held' old new says moves = (
  moves.0,
  moves.1,
  λ before led shows. let on = moves.2 before led shows in (on.0, on.1, says before on.0 moves.0 on.2),
)

-- The octets of a program that is loaded.
pub moves-load : (digits octets : List ℕ) (code : List Instr) (held held' : Held) (old new : List ℕ) → octets_of_digits digits ≡ Some octets
    → ReadsAs octets (is_program code) → Moves (λ before. TakesCommand before (load digits) (Load code)) held held' old new
    → Moves (λ before. Obeys before (load digits)) held held' old new
moves-load digits octets code held held' old new spelled reads moves =
    moves-map (λ before. TakesCommand before (load digits) (Load code)) (λ before. Obeys before (load digits)) held held' old new (λ before after text takes.
    subst (λ (found : Option (List ℕ)). MatchOption found (RefusesLine bad_hex before text after) (λ here. LoadsOctets before digits here text after)) (sym spelled)
    (is_program code, reads, takes)) moves

-- A connection that is set up with contracts whose rates have no error.
pub moves-setup : (vc : Vc) (number : ℕ) (wanted : List Wanted) (contracts : List Contract) (id : Id) (held held' : Held) (old new : List ℕ)
    → first_wanted_fault wanted ≡ None → AreContracts wanted contracts → program_named held.names number ≡ Some id
    → Moves (λ before. TakesCommand before (setup vc number wanted) (Setup (record { vc = vc; program = id; contracts = record { items = contracts } }))) held held' old new
    → Moves (λ before. Obeys before (setup vc number wanted)) held held' old new
moves-setup vc number wanted contracts id held held' old new sound are named moves =
    let ask : Ask = record { vc = vc; program = id; contracts = record { items = contracts } } in
    let asked = moves-map (λ before. TakesCommand before (setup vc number wanted) (Setup ask)) (λ before. AsksConnection before vc number wanted id) held held' old new
    (λ before after text takes. record { ask = ask; connection = refl; program = refl; contracts = are; taken = takes }) moves in
    moves-map (λ before. TakesNamed before (setup vc number wanted) number (AsksConnection before vc number wanted)) (λ before. Obeys before (setup vc number wanted)) held held' old new
    (λ before after text goes.
    subst (λ (found : Option GcraFault). MatchOption found (TakesNamed before (setup vc number wanted) number (AsksConnection before vc number wanted) text after)
    (λ fault. RefusesLine (gcra_fault fault) before text after)) (sym sound) goes)
    (moves-named (λ before. AsksConnection before vc number wanted) (setup vc number wanted) number id held held' old new named asked)

-- A fact about the result and the answers of one branch holds for those after the branches join.
pub on-tie : {E : Type 0} → (Goes : Card → List ℕ → Card → Type 0) (held held' : Held) (old here joined : List ℕ) (given result : Result (Unit {0}) E)
    → result ≡ given → joined ≡ here → OnOk given (Moves Goes held held' old here) → OnOk result (Moves Goes held held' old joined)
on-tie Goes held held' old here joined given result same_result same_answers moves =
    subst (λ r. OnOk r (Moves Goes held held' old joined)) (sym same_result)
    (subst (λ answers. OnOk given (Moves Goes held held' old answers)) (sym same_answers) moves)

-- The command that a line's words spell.
pub moves-line : (side : Side) (words : List (List ℕ)) (command : Command) (held held' : Held) (old new : List ℕ) → held.core.shape.side ≡ side
    → command_of side words ≡ Some command → Moves (λ before. Obeys before command) held held' old new
    → Moves (λ before. CommandLine before words) held held' old new
moves-line side words command held held' old new is spelled moves = (
  moves.0,
  moves.1,
  λ before led shows.
      let on = moves.2 before led shows in
      let here : command_of before.world.shape.side words ≡ Some command =
      ap (λ s. command_of s words) (sym (sym is ∙ ap (λ s. s.side) shows.agrees.shape)) ∙ spelled in
      (on.0, on.1, subst (λ (found : Option Command). MatchOption found (RefusesLine bad_line before moves.0 on.0) (λ read. Obeys before read moves.0 on.0)) (sym here) on.2),
)

-- The same for a command whose contracts are still words.
pub moves-seen : (side : Side) (words : List (List ℕ)) (seen : Option Command) (held held' : Held) (old new : List ℕ) → held.core.shape.side ≡ side
    → seen ≡ command_of side words → Moves (λ before. ObeysSeen before seen) held held' old new
    → Moves (λ before. CommandLine before words) held held' old new
moves-seen side words seen held held' old new is spelled moves = (
  moves.0,
  moves.1,
  λ before led shows.
      let on = moves.2 before led shows in
      let here : seen ≡ command_of before.world.shape.side words =
      spelled ∙ ap (λ s. command_of s words) (sym is ∙ ap (λ s. s.side) shows.agrees.shape) in
      (on.0, on.1, subst (λ (found : Option Command). MatchOption found (RefusesLine bad_line before moves.0 on.0) (λ read. Obeys before read moves.0 on.0)) here on.2),
)
