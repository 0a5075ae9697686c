-- Laws of `run`: in every state that a run reaches, each line has an answer and leads to such a state. They are next to
-- the definitions because the machine of `run` cites them.
use Rattle.std.proofs.Common.{◌≡◌, ℕ, zero, suc, ◌^◌, ◌<◌, ◌==◌, ◌||◌, inl, inr, Bool, true, false, if◌then◌else◌, List, [], ◌∷◌, ◌++◌, Option, Some, None, length, codes, slice_get, nat_lt, refl, sym, ap, ◌∙◌, subst, arith}
use Rattle.std.specs.Prelude.{replicate}
use Rattle.std.proofs.lemmas.Bool.Decides.{nat_tests}
use Rattle.std.specs.Bool.{MatchBool}
use Rattle.std.specs.Option.{MatchOption}
use Rattle.std.proofs.lemmas.Grind.{flat_map-append}
use Rattle.std.proofs.lemmas.List.{append-nil}
use Rattle.upc_cell.specs.Connection.{vc_of}
use Rattle.upc_cell.specs.declared.vc.Vc.{Vc}
use Rattle.bpf_code.specs.declared.instr.Instr.{Instr}
use Rattle.bpf_verify.specs.Accepted.{IsAccepted}
use Rattle.gen_arena.specs.declared.id.Id.{Id}
use Rattle.leaky.specs.declared.contract.Contract.{Contract}
use Rattle.leaky.specs.declared.contract.Contract.TheVariants.{Cbr1, Vbr1, Vbr2, Vbr3}
use Rattle.leaky.specs.declared.gcra.Gcra.{Gcra}
use Rattle.leaky.specs.declared.gcra.GcraFault.{GcraFault}
use Rattle.leaky.specs.declared.gcra.GcraFault.TheVariants.{ZeroIncrement, TooLarge}
use Rattle.card_core.proofs.Public.{log-goes_on, step-replied}
use Rattle.card_core.specs.Laws.{LoadsAccepted}
use Rattle.card_core.specs.Log.{Event, Leads}
use Rattle.card_core.specs.Steps.{WorldStep}
use Rattle.card_core.specs.World.{World, entered, opening_world, outside}
use Rattle.card_core.specs.declared.answer.Answer.{Answer}
use Rattle.card_core.specs.declared.ask.Ask.{Ask}
use Rattle.card_core.specs.declared.fault.CardFault.{CardFault}
use Rattle.card_core.specs.declared.reply.Reply.{Reply}
use Rattle.card_core.specs.declared.reply.Reply.TheVariants.{Answered, Entered, Picked}
use Rattle.card_core.specs.declared.shape.Shape.{Shape}
use Rattle.card_core.specs.declared.step.Step.{Step}
use Rattle.card_core.specs.declared.step.Step.TheVariants.{Enter, Pick, Judge, Load, Retire, Setup, Reload, Release, Cut}
use Rattle.text_io.proofs.Public.{silent-or, silent-sound}
use Rattle.text_io.specs.Answering.{EndsBy}
use Rattle.text_io.specs.Printing.{IsTotal}
use Rattle.text_io.specs.Words.{is_silent, words_of}
use Rattle.text_io.specs.declared.ending.Done.{Done}
use Rattle.text_io.specs.declared.ending.Done.TheVariants.{Whole, Ended}
use Rattle.card_core.specs.Shapes.{shape_fault}
use Rattle.text_card.specs.CardLine.{card_line_shape}
use Rattle.text_script.specs.ScriptCommands.{Command, load, retire, setup, reload, release, cut, cell, command_of}
use Rattle.text_words.specs.FaultLines.{bad_hex, bad_line, wrong_length}
use Rattle.text_card.specs.CardFaults.{gcra_fault, no_card, no_such_program, shape_fault_line}
use Rattle.text_words.specs.Hexadecimal.{octets_of_digits, cell_of_octets}
use Rattle.cmd_programs.specs.Program.{ProgramReading, is_program, is_refused, ReadsAs}
use Rattle.text_script.specs.Rates.{AreContracts, IsContract, IsRate, first_of_two, first_wanted_fault, rate_fault, wanted_fault}
use Rattle.text_script.specs.ProgramNames.{program_named}
use Rattle.text_card.specs.Replies.{reply_text}
use Rattle.cmd_run.specs.RunText.{Arrives, AsksConnection, Card, IsAnswered, IsLed, IsSoundRun, LoadsOctets, Obeys, OpensCard, PolicesCell, PolicesOctets, RefusesLine, RunCloses, RunWorld, TakesCommand, TakesNamed, TakesReading, OpensOrObeys, id_loaded, ids_loaded, new_card, run_rules}
use Rattle.text_script.specs.declared.script_words.Rate.{Rate}
use Rattle.text_script.specs.declared.script_words.Wanted.{Wanted}
use Rattle.text_script.specs.declared.script_words.Wanted.TheVariants as wanted
use Rattle.cmd_run.specs.inner.CardSteps.{Spares, IsPrinted, answer-printed, cut-printed, load-printed, release-printed, reload-printed, retire-printed, setup-printed}
use Rattle.cmd_programs.proofs.Public.{reads-as}
use Rattle.cmd_run.specs.inner.PortZero.{PortIs, cut-ports, enter-goes, judge-goes, load-ports, pick-goes, release-ports, reload-ports, retire-ports, setup-ports}

-- The ids of a log with one more event.
ids-next : (log : List Event) (step : Step) (reply : Reply) → ids_loaded (log ++ record { step = step; reply = reply } ∷ []) ≡ ids_loaded log ++ id_loaded reply
ids-next log step reply =
    flat_map-append (λ (event : Event). id_loaded event.reply) log (record { step = step; reply = reply } ∷ [])
    ∙ ap (λ xs. ids_loaded log ++ xs) (append-nil (id_loaded reply))

-- The log leads to this world, and its programs have these ids.
record Reached (shape : Shape) (log : List Event) (world : World) (names : List Id) : Type 0 where
  leads : Leads shape log world
  known : names ≡ ids_loaded log

reached-next : (shape : Shape) (log : List Event) (world after : World) (names : List Id) (step : Step) (reply : Reply)
    → Reached shape log world names → WorldStep world step reply after
    → Reached shape (log ++ record { step = step; reply = reply } ∷ []) after (names ++ id_loaded reply)
reached-next shape log world after names step reply reached goes = record {
  leads = log-goes_on (opening_world shape) world after log step reply reached.leads goes;
  known = ap (λ xs. xs ++ id_loaded reply) reached.known ∙ sym (ids-next log step reply);
}

-- A step that loads no program.
reached-quiet : (shape : Shape) (log : List Event) (world after : World) (names : List Id) (step : Step) (reply : Reply)
    → Reached shape log world names → WorldStep world step reply after → id_loaded reply ≡ []
    → Reached shape (log ++ record { step = step; reply = reply } ∷ []) after names
reached-quiet shape log world after names step reply reached goes none =
    let same : names ++ id_loaded reply ≡ names = ap (λ xs. names ++ xs) none ∙ append-nil names in
    let next = reached-next shape log world after names step reply reached goes in
    record { leads = next.leads; known = sym same ∙ next.known }

reached-of : (card : Card) (led : IsLed card) → Reached led.shape led.log card.world card.names
reached-of card led = record { leads = led.leads; known = led.names }

led-of : (card : Card) (shape : Shape) (log : List Event) → Reached shape log card.world card.names → PortIs card.world outside → IsLed card
led-of card shape log reached free = record { shape = shape; log = log; leads = reached.leads; names = reached.known; free = free }

-- The card after a step of the desk.
led-taken : (before after : Card) (command : Command) (step : Step) (text : List ℕ) → IsLed before
    → ((reply : Reply) → WorldStep before.world step reply after.world → after.world.ports ≡ before.world.ports)
    → TakesCommand before command step text after → IsLed after
led-taken before after command step text led leaves takes =
    let next = reached-next led.shape led.log before.world after.world before.names step takes.reply (reached-of before led) takes.stepped in
    led-of after led.shape _ (record { leads = next.leads; known = takes.named ∙ next.known })
    (subst (λ states. slice_get states 0 ≡ Some outside) (sym (leaves takes.reply takes.stepped)) led.free)

led-refused : (before after : Card) (fault text : List ℕ) → IsLed before → RefusesLine fault before text after → IsLed after
led-refused before after fault text led refused = subst IsLed (sym refused.1) led

-- A step of the desk is taken, and its reply has a line.
takes : (before : Card) (command : Command) (step : Step) → IsLed before → LoadsAccepted step
    → ((after : World) (reply : Reply) → WorldStep before.world step reply after → Spares reply → IsPrinted (reply_text before.world.shape.side command (length before.names) reply))
    → (text : List ℕ) × (after : Card) × TakesCommand before command step text after
takes before command step led accepted printed =
    let replied = step-replied led.shape led.log before.world led.leads step accepted in
    let line = printed replied.1 replied.0 replied.2 replied.3 in (
      line.0,
      record { world = replied.1; names = before.names ++ id_loaded replied.0 },
      record { reply = replied.0; stepped = replied.2; named = refl; printed = line.1 },
    )

-- Rates without an error are parameters of a bucket.
none-of : (b : Bool) (fault : GcraFault) (later : Option GcraFault) → (if b then Some fault else later) ≡ None → (b ≡ false) × (later ≡ None)
none-of true fault later e = cc
none-of false fault later e = (refl, e)

rate-some : (rate : Rate) → rate_fault rate ≡ None → (gcra : Gcra) × IsRate rate gcra
rate-some rate sound =
    let first = none-of (rate.increment == 0) ZeroIncrement _ sound in
    let second = none-of (nat_lt (2 ^ 48) rate.increment || nat_lt (2 ^ 48) rate.limit) TooLarge None first.1 in
    let test : (rate.increment == 0) ≡ false = first.0 in
    let tests : (nat_lt (2 ^ 48) rate.increment || nat_lt (2 ^ 48) rate.limit) ≡ false = second.0 in (
      record {
        increment = rate.increment;
        limit = rate.limit;
        increment_above_zero = grind (arith, nat_tests);
        increment_bounded = grind (arith, nat_tests);
        limit_bounded = grind (arith, nat_tests);
      },
      (refl, refl),
    )

first-none : (one other : Option GcraFault) → first_of_two one other ≡ None → (one ≡ None) × (other ≡ None)
first-none None other e = (refl, e)
first-none (Some fault) other e = cc

contract-some : (ask : Wanted) → wanted_fault ask ≡ None → (contract : Contract) × IsContract ask contract
contract-some (wanted.Cbr1 peak) sound = let rate = rate-some peak sound in (Cbr1 rate.0, rate.1)
contract-some (wanted.Vbr1 peak sustained) sound =
    let both = first-none (rate_fault peak) (rate_fault sustained) sound in
    let one = rate-some peak both.0 in let other = rate-some sustained both.1 in (Vbr1 one.0 other.0, (one.1, other.1))
contract-some (wanted.Vbr2 peak sustained) sound =
    let both = first-none (rate_fault peak) (rate_fault sustained) sound in
    let one = rate-some peak both.0 in let other = rate-some sustained both.1 in (Vbr2 one.0 other.0, (one.1, other.1))
contract-some (wanted.Vbr3 peak sustained) sound =
    let both = first-none (rate_fault peak) (rate_fault sustained) sound in
    let one = rate-some peak both.0 in let other = rate-some sustained both.1 in (Vbr3 one.0 other.0, (one.1, other.1))

contracts-some : (asks : List Wanted) → first_wanted_fault asks ≡ None → (contracts : List Contract) × AreContracts asks contracts
contracts-some [] sound = ([], tt)
contracts-some (ask ∷ later) sound =
    let both = first-none (wanted_fault ask) (first_wanted_fault later) sound in
    let one = contract-some ask both.0 in let others = contracts-some later both.1 in (one.0 ∷ others.0, (one.1, others.1))

-- The program with a number, or none.
named-some : (found : Option Id) (before : Card) (TakesWith : Id → List ℕ → Card → Type 0)
    → ((id : Id) → (text : List ℕ) × (after : Card) × TakesWith id text after)
    → (text : List ℕ) × (after : Card) × MatchOption found (RefusesLine no_such_program before text after) (λ id. TakesWith id text after)
named-some None before TakesWith some = (no_such_program, before, (refl, refl))
named-some (Some id) before TakesWith some = some id

named-led : (found : Option Id) (before after : Card) (text : List ℕ) (TakesWith : Id → List ℕ → Card → Type 0) → IsLed before
    → ((id : Id) → TakesWith id text after → IsLed after)
    → MatchOption found (RefusesLine no_such_program before text after) (λ id. TakesWith id text after) → IsLed after
named-led None before after text TakesWith led keeps refused = led-refused before after no_such_program text led refused
named-led (Some id) before after text TakesWith led keeps takes = keeps id takes

-- The code of accepted octets is accepted.
accepted-of : (octets : List ℕ) (code : List Instr) → ReadsAs octets (is_program code) → IsAccepted code
accepted-of octets code (inl spelled) = subst IsAccepted (sym spelled.2.1) spelled.2.0
accepted-of octets code (inr faulty) = let no = faulty.3 in cc

reading-some : (before : Card) (digits octets : List ℕ) → IsLed before → (reading : ProgramReading) → ReadsAs octets reading
    → (text : List ℕ) × (after : Card) × TakesReading before digits reading text after
reading-some before digits octets led (is_program code) reads =
    takes before (load digits) (Load code) led (accepted-of octets code reads)
    (λ after reply. load-printed before.world.shape.side before.world after code digits (length before.names) reply)
reading-some before digits octets led (is_refused fault) reads = (fault, before, (refl, refl))

octets-some : (before : Card) (digits octets : List ℕ) → IsLed before → (text : List ℕ) × (after : Card) × LoadsOctets before digits octets text after
octets-some before digits octets led =
    let read = reads-as octets in
    let done = reading-some before digits octets led read.0 read.1 in
    (done.0, done.1, (read.0, read.1, done.2))

load-some : (before : Card) (digits : List ℕ) → IsLed before → (found : Option (List ℕ))
    → (text : List ℕ) × (after : Card) × MatchOption found (RefusesLine bad_hex before text after) (λ octets. LoadsOctets before digits octets text after)
load-some before digits led None = (bad_hex, before, (refl, refl))
load-some before digits led (Some octets) = octets-some before digits octets led

reading-led : (before after : Card) (digits text : List ℕ) → IsLed before → (reading : ProgramReading) → TakesReading before digits reading text after → IsLed after
reading-led before after digits text led (is_program code) takes =
    led-taken before after (load digits) (Load code) text led (load-ports before.world after.world code) takes
reading-led before after digits text led (is_refused fault) refused = led-refused before after fault text led refused

load-led : (before after : Card) (digits text : List ℕ) → IsLed before → (found : Option (List ℕ))
    → MatchOption found (RefusesLine bad_hex before text after) (λ octets. LoadsOctets before digits octets text after) → IsLed after
load-led before after digits text led None refused = led-refused before after bad_hex text led refused
load-led before after digits text led (Some octets) loads = reading-led before after digits text led loads.0 loads.2

-- The line of a cell has an answer.
pub cell-some : (before : Card) (moment : ℕ) (octets : List ℕ) → IsLed before → (text : List ℕ) × (after : Card) × PolicesCell before moment octets text after
cell-some before moment octets led =
    let one = step-replied led.shape led.log before.world led.leads (Enter 0 octets moment) tt in
    let entering = enter-goes before.world one.1 octets moment one.0 led.free one.2 in
    let first : WorldStep before.world (Enter 0 octets moment) Entered one.1 =
    subst (λ (r : Reply). WorldStep before.world (Enter 0 octets moment) r one.1) entering.0 one.2 in
    let came = reached-quiet led.shape led.log before.world one.1 before.names (Enter 0 octets moment) Entered (reached-of before led) first refl in
    let two = step-replied led.shape _ one.1 came.leads (Pick 0) tt in
    elim (pick-goes one.1 two.1 octets moment two.0 entering.1 two.2) [
      | inl missed ↦
          let printed = answer-printed before.world.shape.side before.names (vc_of before.world.shape.side octets) missed.0 (subst Spares missed.1 two.3) in
          let second = subst (λ (r : Reply). WorldStep one.1 (Pick 0) r two.1) missed.1 two.2 in (
            printed.0,
            record { world = two.1; names = before.names },
            record { answer = missed.0; arrived = (one.1, first, inl second); same = refl; printed = printed.1 },
          )
      | inr found ↦
          let second = subst (λ (r : Reply). WorldStep one.1 (Pick 0) r two.1) found.1 two.2 in
          let went = reached-quiet led.shape _ one.1 two.1 before.names (Pick 0) Picked came second refl in
          let three = step-replied led.shape _ two.1 went.leads (Judge 0) tt in
          let given = judge-goes two.1 three.1 found.0 three.0 found.2 three.2 in
          let printed = answer-printed before.world.shape.side before.names (vc_of before.world.shape.side octets) given.0 (subst Spares given.1 three.3) in
          let third = subst (λ (r : Reply). WorldStep two.1 (Judge 0) r three.1) given.1 three.2 in (
            printed.0,
            record { world = three.1; names = before.names },
            record { answer = given.0; arrived = (one.1, first, inr (two.1, second, third)); same = refl; printed = printed.1 },
          )
    ]

answered-led : (before after : Card) (shape : Shape) (log : List Event) (entering : World) (octets : List ℕ) (moment : ℕ) (given : Answer)
    → Reached shape log entering before.names → PortIs entering (entered octets moment) → after.names ≡ before.names
    → IsAnswered entering given after.world → IsLed after
answered-led before after shape log entering octets moment given came had same (inl picks) =
    let next = reached-quiet shape log entering after.world before.names (Pick 0) (Answered given) came picks refl in
    elim (pick-goes entering after.world octets moment (Answered given) had picks) [
      | inl missed ↦ led-of after shape _ (record { leads = next.leads; known = same ∙ next.known }) missed.2
      | inr found ↦ let no = found.1 in cc
    ]
answered-led before after shape log entering octets moment given came had same (inr judges) =
    let second = reached-quiet shape log entering judges.0 before.names (Pick 0) Picked came judges.1 refl in
    let third = reached-quiet shape _ judges.0 after.world before.names (Judge 0) (Answered given) second judges.2 refl in
    elim (pick-goes entering judges.0 octets moment Picked had judges.1) [
      | inl missed ↦ let no = missed.1 in cc
      | inr found ↦
          let free = judge-goes judges.0 after.world found.0 (Answered given) found.2 judges.2 in
          led-of after shape _ (record { leads = third.leads; known = same ∙ third.known }) free.2
    ]

-- The card after a cell that arrived.
pub arrived-led : (before after : Card) (moment : ℕ) (octets : List ℕ) (given : Answer) → IsLed before
    → Arrives before.world octets moment given after.world → after.names ≡ before.names → IsLed after
arrived-led before after moment octets given led arrived same =
    let entering = enter-goes before.world arrived.0 octets moment Entered led.free arrived.1 in
    let came = reached-quiet led.shape led.log before.world arrived.0 before.names (Enter 0 octets moment) Entered (reached-of before led) arrived.1 refl in
    answered-led before after led.shape _ arrived.0 octets moment given came entering.1 same arrived.2

cell-led : (before after : Card) (moment : ℕ) (octets text : List ℕ) → IsLed before → PolicesCell before moment octets text after → IsLed after
cell-led before after moment octets text led polices = arrived-led before after moment octets polices.answer led polices.arrived polices.same

-- The line of a word of octets has an answer.
sized-some : (before : Card) (moment : ℕ) (octets : List ℕ) → IsLed before → (b : Bool)
    → (text : List ℕ) × (after : Card) × MatchBool b (PolicesCell before moment octets text after) (RefusesLine (wrong_length (length octets)) before text after)
sized-some before moment octets led true = cell-some before moment octets led
sized-some before moment octets led false = (wrong_length (length octets), before, (refl, refl))

sized-led : (before after : Card) (moment : ℕ) (octets text : List ℕ) → IsLed before → (b : Bool)
    → MatchBool b (PolicesCell before moment octets text after) (RefusesLine (wrong_length (length octets)) before text after) → IsLed after
sized-led before after moment octets text led true polices = cell-led before after moment octets text led polices
sized-led before after moment octets text led false refused = led-refused before after _ text led refused

digits-some : (before : Card) (moment : ℕ) → IsLed before → (found : Option (List ℕ))
    → (text : List ℕ) × (after : Card) × MatchOption found (RefusesLine bad_hex before text after) (λ octets. PolicesOctets before moment (cell_of_octets octets) text after)
digits-some before moment led None = (bad_hex, before, (refl, refl))
digits-some before moment led (Some octets) = sized-some before moment (cell_of_octets octets) led (length (cell_of_octets octets) == 52)

digits-led : (before after : Card) (moment : ℕ) (text : List ℕ) → IsLed before → (found : Option (List ℕ))
    → MatchOption found (RefusesLine bad_hex before text after) (λ octets. PolicesOctets before moment (cell_of_octets octets) text after) → IsLed after
digits-led before after moment text led None refused = led-refused before after bad_hex text led refused
digits-led before after moment text led (Some octets) polices = sized-led before after moment (cell_of_octets octets) text led (length (cell_of_octets octets) == 52) polices

-- The line of a setup has an answer.
wanted-some : (before : Card) (vc : Vc) (number : ℕ) (wanted : List Wanted) → IsLed before → (found : Option GcraFault) → first_wanted_fault wanted ≡ found
    → (text : List ℕ) × (after : Card) × MatchOption found (TakesNamed before (setup vc number wanted) number (AsksConnection before vc number wanted) text after)
    (λ fault. RefusesLine (gcra_fault fault) before text after)
wanted-some before vc number wanted led None sound =
    named-some (program_named before.names number) before (AsksConnection before vc number wanted) (λ id.
    let contracts = contracts-some wanted sound in
    let ask : Ask = record { vc = vc; program = id; contracts = record { items = contracts.0 } } in
    let done = takes before (setup vc number wanted) (Setup ask) led tt
    (λ after reply. setup-printed before.world.shape.side before.world after ask vc number wanted (length before.names) reply) in
    (done.0, done.1, record { ask = ask; connection = refl; program = refl; contracts = contracts.1; taken = done.2 }))
wanted-some before vc number wanted led (Some fault) sound = (gcra_fault fault, before, (refl, refl))

wanted-led : (before after : Card) (vc : Vc) (number : ℕ) (wanted : List Wanted) (text : List ℕ) → IsLed before → (found : Option GcraFault)
    → MatchOption found (TakesNamed before (setup vc number wanted) number (AsksConnection before vc number wanted) text after)
    (λ fault. RefusesLine (gcra_fault fault) before text after) → IsLed after
wanted-led before after vc number wanted text led None takes =
    named-led (program_named before.names number) before after text (AsksConnection before vc number wanted) led
    (λ id asks. led-taken before after (setup vc number wanted) (Setup asks.ask) text led (setup-ports before.world after.world asks.ask) asks.taken) takes
wanted-led before after vc number wanted text led (Some fault) refused = led-refused before after _ text led refused

-- A cut has an answer, and leads to a card that a log leads to.
pub cut-some : (before : Card) (vc : Vc) → IsLed before → (text : List ℕ) × (after : Card) × TakesCommand before (cut vc) (Cut vc) text after
cut-some before vc led = takes before (cut vc) (Cut vc) led tt (λ after reply. cut-printed before.world.shape.side before.world after vc (length before.names) reply)

pub cut-led : (before after : Card) (vc : Vc) (text : List ℕ) → IsLed before → TakesCommand before (cut vc) (Cut vc) text after → IsLed after
cut-led before after vc text led = led-taken before after (cut vc) (Cut vc) text led (cut-ports before.world after.world vc)

-- Each command has an answer.
command-some : (before : Card) → IsLed before → (command : Command) → (text : List ℕ) × (after : Card) × Obeys before command text after
command-some before led (load digits) = load-some before digits led (octets_of_digits digits)
command-some before led (retire number) =
    named-some (program_named before.names number) before (λ id. TakesCommand before (retire number) (Retire id))
    (λ id. takes before (retire number) (Retire id) led tt (λ after reply. retire-printed before.world.shape.side before.world after id number (length before.names) reply))
command-some before led (setup vc number wanted) = wanted-some before vc number wanted led (first_wanted_fault wanted) refl
command-some before led (reload vc number) =
    named-some (program_named before.names number) before (λ id. TakesCommand before (reload vc number) (Reload vc id))
    (λ id. takes before (reload vc number) (Reload vc id) led tt (λ after reply. reload-printed before.world.shape.side before.world after vc id number (length before.names) reply))
command-some before led (release vc) =
    takes before (release vc) (Release vc) led tt (λ after reply. release-printed before.world.shape.side before.world after vc (length before.names) reply)
command-some before led (cut vc) = cut-some before vc led
command-some before led (cell moment digits) = digits-some before moment led (octets_of_digits digits)

command-led : (before after : Card) (text : List ℕ) → IsLed before → (command : Command) → Obeys before command text after → IsLed after
command-led before after text led (load digits) obeys = load-led before after digits text led (octets_of_digits digits) obeys
command-led before after text led (retire number) obeys =
    named-led (program_named before.names number) before after text (λ id. TakesCommand before (retire number) (Retire id)) led
    (λ id takes. led-taken before after (retire number) (Retire id) text led (retire-ports before.world after.world id) takes) obeys
command-led before after text led (setup vc number wanted) obeys = wanted-led before after vc number wanted text led (first_wanted_fault wanted) obeys
command-led before after text led (reload vc number) obeys =
    named-led (program_named before.names number) before after text (λ id. TakesCommand before (reload vc number) (Reload vc id)) led
    (λ id takes. led-taken before after (reload vc number) (Reload vc id) text led (reload-ports before.world after.world vc id) takes) obeys
command-led before after text led (release vc) obeys =
    led-taken before after (release vc) (Release vc) text led (release-ports before.world after.world vc) obeys
command-led before after text led (cut vc) obeys = cut-led before after vc text led obeys
command-led before after text led (cell moment digits) obeys = digits-led before after moment text led (octets_of_digits digits) obeys

line-some : (before : Card) → IsLed before → (found : Option Command)
    → (text : List ℕ) × (after : Card) × MatchOption found (RefusesLine bad_line before text after) (λ command. Obeys before command text after)
line-some before led None = (bad_line, before, (refl, refl))
line-some before led (Some command) = command-some before led command

line-led : (before after : Card) (text : List ℕ) → IsLed before → (found : Option Command)
    → MatchOption found (RefusesLine bad_line before text after) (λ command. Obeys before command text after) → IsLed after
line-led before after text led None refused = led-refused before after bad_line text led refused
line-led before after text led (Some command) obeys = command-led before after text led command obeys

-- The line that opens a card has an answer.
opens-some : (shape : Shape) → (found : Option CardFault) → (text : List ℕ) × (next : Option RunWorld)
    × MatchOption found ((text ≡ codes "ready\n") × (next ≡ Some (Some (new_card shape)))) (λ fault. EndsBy (shape_fault_line fault) text next)
opens-some shape None = (codes "ready\n", Some (Some (new_card shape)), (refl, refl))
opens-some shape (Some fault) = (shape_fault_line fault, None, (refl, refl))

opening-some : (found : Option Shape) → (text : List ℕ) × (next : Option RunWorld) × MatchOption found (EndsBy no_card text next) (λ shape. OpensCard shape text next)
opening-some None = (no_card, None, (refl, refl))
opening-some (Some shape) = opens-some shape (shape_fault shape)

-- A card of a shape within its limits has a port 0.
first-free : (ports : ℕ) → 0 < ports → slice_get (replicate ports outside) 0 ≡ Some outside
first-free zero some = absurd (omega arith)
first-free (suc ports) some = refl

has-port : (shape : Shape) → shape_fault shape ≡ None → 0 < shape.ports
has-port shape e = grind (arith, nat_tests)

opens-led : (shape : Shape) (text : List ℕ) (card : Card) (found : Option CardFault) → shape_fault shape ≡ found
    → MatchOption found ((text ≡ codes "ready\n") × (Some (Some card) ≡ Some (Some (new_card shape)))) (λ fault. EndsBy (shape_fault_line fault) text (Some (Some card)))
    → IsLed card
opens-led shape text card None sound opened =
    let same : card ≡ new_card shape = let e = opened.1 in cc in
    subst IsLed (sym same) (record { shape = shape; log = []; leads = refl; names = refl; free = first-free shape.ports (has-port shape sound) })
opens-led shape text card (Some fault) sound ends = let no = ends.1 in cc

opening-led : (text : List ℕ) (card : Card) (found : Option Shape)
    → MatchOption found (EndsBy no_card text (Some (Some card))) (λ shape. OpensCard shape text (Some (Some card))) → IsLed card
opening-led text card None ends = let no = ends.1 in cc
opening-led text card (Some shape) opens = opens-led shape text card (shape_fault shape) refl opens

prints-some : (world : RunWorld) → IsSoundRun world → (words : List (List ℕ)) → (text : List ℕ) × (next : Option RunWorld) × OpensOrObeys world words text next
prints-some None sound words = opening-some (card_line_shape words)
prints-some (Some card) led words =
    let printed = line-some card led (command_of card.world.shape.side words) in
    (printed.0, Some (Some printed.1), (printed.1, printed.2, refl))

prints-sound : (world after : RunWorld) (words : List (List ℕ)) (text : List ℕ) → IsSoundRun world → OpensOrObeys world words text (Some after) → IsSoundRun after
prints-sound None None words text sound printed = tt
prints-sound None (Some card) words text sound printed = opening-led text card (card_line_shape words) printed
prints-sound (Some before) after words text led printed =
    let same : after ≡ Some printed.0 = let e = printed.2 in cc in
    subst IsSoundRun (sym same) (line-led before printed.0 text led (command_of before.world.shape.side words) printed.1)

close-some : (world : RunWorld) → IsSoundRun world → (text : List ℕ) × (done : Done) × RunCloses world text done
close-some None sound = (no_card, Ended, (refl, refl))
close-some (Some card) sound = ([], Whole, (refl, refl))

-- The rules of `run` are total.
pub run-total : IsTotal run_rules
run-total = record {
  keeps = λ world content text after sound steps.
      silent-sound IsSoundRun (OpensOrObeys world (words_of content) text (Some after)) world after text (is_silent (words_of content)) sound
      (prints-sound world after (words_of content) text sound) steps;
  step = λ world content sound. silent-or (OpensOrObeys world (words_of content)) world (is_silent (words_of content)) (prints-some world sound (words_of content));
  close = close-some;
}
