-- A Setup.
use Rattle.std.proofs.Common.{◌≡◌, ℕ, ◌+◌, ◌^◌, ◌<◌, Bool, true, false, cond, not, Option, Some, None, IsSome, List, length, refl, sym, ap, subst, ◌∙◌, arith}
use Rattle.std.specs.Prelude.{option_map, is_none, is_some, nat_le, ◌==◌, Result, Ok, Err}
use Rattle.std.specs.List.{list_any}
use Rattle.std.proofs.lemmas.Bool.Decides.{nat_tests, Decides-eqb}
use Rattle.gen_arena.specs.Slot.{Slot}
use Rattle.gen_arena.specs.Live.{live_value, IsLive}
use Rattle.upc_cell.specs.declared.vc.Vc.{Vc}
use Rattle.bpf_code.specs.declared.instr.Instr.{Instr}
use Rattle.line_record.specs.declared.owner.Owner.{Owner}
use Rattle.line_record.specs.declared.directory.Seating.{Seating}
use Rattle.line_record.specs.Directory.{DirectoryView, seating_at, Sits, IsOpenLine, IsTakenLine}
use Rattle.line_record.specs.Line.{LineView}
use Rattle.line_record.specs.Tally.{tally_of}
use Rattle.card_core.specs.declared.ask.Ask.{Ask}
use Rattle.card_core.specs.declared.fault.DeskFault.{DeskFault}
use Rattle.card_core.specs.declared.fault.DeskFault.TheVariants.{NoProgram, NoConnection, Taken, NoLine, InUse, ProgramsFull, Exhausted, BadContracts, Busy, NoMemory, Stale}
use Rattle.card_core.specs.declared.port.Port.{Port}
use Rattle.card_core.specs.declared.reply.Reply.{Reply}
use Rattle.card_core.specs.declared.reply.Reply.TheVariants.{SetUp, NotSetUp}
use Rattle.card_core.specs.declared.step.Step.TheVariants.{Setup}
use Rattle.card_core.specs.declared.shape.Shape.{Shape}
use Rattle.card_core.specs.World.{World, Connection, code_in, connection_in, with_connection, any_below, is_open_line}
use Rattle.card_core.specs.Refusals.{setup_fault}
use Rattle.card_core.specs.Steps.{WorldStep, new_connection}
use Rattle.card_core.specs.Agreement.{CoreView, CoreAgrees, Follows, LinesAgree, SeatingsAgree, seating_of}
use Rattle.card_core.specs.Sections.{Admits, IsUnfit, IsUnready}
use Rattle.card_core.specs.inner.Parts.{ChangesLine, SetsUpOrRefuses, TakesLine}
use Rattle.card_core.proofs.Sound.{WorldInvariant}
use Rattle.card_core.proofs.Follow.{follows, step-refused, step-taken, step-without_memory}
use Rattle.card_core.proofs.LookUps.{mapped, unmapped, there_is}
use Rattle.card_core.proofs.ConnectionLemmas.{connection_passes}
use Rattle.card_core.proofs.LineLemmas.{Change, lines-with, lines-ready, seatings-with}
use Rattle.card_core.proofs.StoreLemmas.{below-passes, below-fails}
use Rattle.card_core.proofs.StoreSteps.{tested-connection}
use Rattle.card_core.proofs.DeskLemmas.{open-serves, readied}
use Rattle.card_core.proofs.PortLemmas.{core_of}

module _ (shape : Shape) (store : List (Slot (List Instr))) (directory : DirectoryView) (lines : List LineView) (ports : List Port) (ask : Ask) where
  abbrev Old : CoreView
  Old = core_of shape store directory lines ports

  -- The error, from its five tests.
  abbrev fault_by : Bool → Bool → Bool → Bool → Bool → Option DeskFault
  fault_by dead taken empty room worn =
      cond dead (Some NoProgram) (cond taken (Some Taken) (cond empty (Some BadContracts)
      (cond (not room) (Some NoLine) (cond worn (Some Exhausted) None))))

  tests-are : (before : World) (dead taken empty room worn : Bool)
      → is_none (code_in before.live ask.program) ≡ dead → is_some (connection_in before.connections ask.vc) ≡ taken
      → (length ask.contracts.items == 0) ≡ empty → any_below before.shape.lines (is_open_line before) ≡ room
      → nat_le (2 ^ 62) before.incarnations ≡ worn → setup_fault before ask ≡ fault_by dead taken empty room worn
  tests-are before dead taken empty room worn a b c d e =
      let second = is_some (connection_in before.connections ask.vc) in
      let third = length ask.contracts.items == 0 in
      let fourth = any_below before.shape.lines (is_open_line before) in
      let fifth = nat_le (2 ^ 62) before.incarnations in
      ap (λ t. fault_by t second third fourth fifth) a
      ∙ ap (λ t. fault_by dead t third fourth fifth) b
      ∙ ap (λ t. fault_by dead taken t fourth fifth) c
      ∙ ap (λ t. fault_by dead taken empty t fifth) d
      ∙ ap (λ t. fault_by dead taken empty room t) e

  -- The tests, in terms of the core.
  is-dead : (before : World) → CoreAgrees Old before → live_value store ask.program ≡ None → is_none (code_in before.live ask.program) ≡ true
  is-dead before agrees gone = ap is_none (sym (agrees.store.values ask.program) ∙ gone)

  is-live : (before : World) → CoreAgrees Old before → IsLive store ask.program → is_none (code_in before.live ask.program) ≡ false
  is-live before agrees live =
      let there = there_is (live_value store ask.program) live in
      ap is_none (sym (agrees.store.values ask.program) ∙ there.1)

  is-taken : (before : World) → CoreAgrees Old before → IsSome (seating_at directory ask.vc) → is_some (connection_in before.connections ask.vc) ≡ true
  is-taken before agrees has =
      let there = there_is (seating_at directory ask.vc) has in
      let known = mapped seating_of (connection_in before.connections ask.vc) there.0 (sym (agrees.seatings.seatings ask.vc) ∙ there.1) in
      ap is_some known.1

  absent : (before : World) → CoreAgrees Old before → seating_at directory ask.vc ≡ None → connection_in before.connections ask.vc ≡ None
  absent before agrees none =
      unmapped seating_of (connection_in before.connections ask.vc) (sym (agrees.seatings.seatings ask.vc) ∙ none)

  line-open : (before : World) → WorldInvariant before → CoreAgrees Old before → (line : ℕ) → IsOpenLine directory line → is_open_line before line ≡ true
  line-open before sound agrees line free =
      let test : (Vc × Connection) → Bool = λ here. here.1.line == line in
      let choice : (b : Bool) → list_any test before.connections ≡ b → not b ≡ true = elim [
        | true ↦ λ e.
            let found = tested-connection before.connections test e in
            let known = sound.connections.once found.0 found.1 in
            let at : found.0.1.line ≡ line = (Decides-eqb found.0.1.line line).0 found.2 in
            absurd (free found.0.0 (seating_of found.0.1) (agrees.seatings.seatings found.0.0 ∙ ap (option_map seating_of) known) at)
        | false ↦ λ e. refl
      ] in
      ap not refl ∙ choice (list_any test before.connections) refl

  line-taken : (before : World) → CoreAgrees Old before → (line : ℕ) → IsTakenLine directory line → is_open_line before line ≡ false
  line-taken before agrees line taken =
      let known = mapped seating_of (connection_in before.connections taken.vc) taken.seating
      (sym (agrees.seatings.seatings taken.vc) ∙ taken.sits) in
      let at : known.0.line ≡ line = ap (λ (seating : Seating). seating.line) (sym known.2) ∙ taken.there in
      ap not (connection_passes (λ (here : Vc × Connection). here.1.line == line) before.connections taken.vc known.0 known.1
      (λ other. (Decides-eqb known.0.line line).1 at))

  empty-is : (n : ℕ) → n ≡ 0 → (n == 0) ≡ true
  empty-is n e = (Decides-eqb n 0).1 e

  some-is : (n : ℕ) → 0 < n → (n == 0) ≡ false
  some-is n e = grind (arith, nat_tests)

  worn-is : (n : ℕ) → n ≡ 2 ^ 62 → nat_le (2 ^ 62) n ≡ true
  worn-is n e = grind (arith, nat_tests)

  unworn-is : (n : ℕ) → n < 2 ^ 62 → nat_le (2 ^ 62) n ≡ false
  unworn-is n e = grind (arith, nat_tests)

  no-room : (before : World) → CoreAgrees Old before → ((line : ℕ) → line < directory.lines → IsTakenLine directory line)
      → any_below before.shape.lines (is_open_line before) ≡ false
  no-room before agrees all =
      below-fails before.shape.lines (is_open_line before)
      (λ line within. line-taken before agrees line (all line (omega (arith, within, agrees.seatings.lines))))

  some-room : (before : World) → WorldInvariant before → CoreAgrees Old before → (line : ℕ) → line < directory.lines → IsOpenLine directory line
      → any_below before.shape.lines (is_open_line before) ≡ true
  some-room before sound agrees line within free =
      below-passes before.shape.lines (is_open_line before) line (omega (arith, within, agrees.seatings.lines))
      (line-open before sound agrees line free)

  unfit-is : (before : World) → WorldInvariant before → CoreAgrees Old before → (fault : DeskFault) → IsUnfit store directory ask fault
      → setup_fault before ask ≡ Some fault
  unfit-is before sound agrees NoProgram why =
      tests-are before true (is_some (connection_in before.connections ask.vc)) (length ask.contracts.items == 0)
      (any_below before.shape.lines (is_open_line before)) (nat_le (2 ^ 62) before.incarnations)
      (is-dead before agrees why) refl refl refl refl
  unfit-is before sound agrees NoConnection why = absurd why
  unfit-is before sound agrees Taken why =
      tests-are before false true (length ask.contracts.items == 0)
      (any_below before.shape.lines (is_open_line before)) (nat_le (2 ^ 62) before.incarnations)
      (is-live before agrees why.0) (is-taken before agrees why.1) refl refl refl
  unfit-is before sound agrees NoLine why =
      tests-are before false false false false (nat_le (2 ^ 62) before.incarnations)
      (is-live before agrees why.0.0.0) (ap is_some (absent before agrees why.0.0.1)) (some-is (length ask.contracts.items) why.0.1)
      (no-room before agrees why.1) refl
  unfit-is before sound agrees InUse why = absurd why
  unfit-is before sound agrees ProgramsFull why = absurd why
  unfit-is before sound agrees Exhausted why =
      tests-are before false false false true true
      (is-live before agrees why.0.0.0.0) (ap is_some (absent before agrees why.0.0.0.1)) (some-is (length ask.contracts.items) why.0.0.1)
      (some-room before sound agrees why.0.1.0 why.0.1.1 why.0.1.2) (worn-is before.incarnations (sym agrees.seatings.used_up ∙ why.1))
  unfit-is before sound agrees BadContracts why =
      tests-are before false false true
      (any_below before.shape.lines (is_open_line before)) (nat_le (2 ^ 62) before.incarnations)
      (is-live before agrees why.0.0) (ap is_some (absent before agrees why.0.1)) (empty-is (length ask.contracts.items) why.1) refl refl
  unfit-is before sound agrees Busy why = absurd why
  unfit-is before sound agrees NoMemory why = absurd why
  unfit-is before sound agrees Stale why = absurd why

  pub setup-unfit : (fault : DeskFault) → IsUnfit store directory ask fault → Follows Old (Setup ask) (NotSetUp fault ask) Old
  setup-unfit fault why = follows Old Old (Setup ask) (NotSetUp fault ask) (λ before sound agrees. (
    before,
    step-refused before (Setup ask) (NotSetUp fault ask) (ap (option_map (λ f. NotSetUp f ask)) (unfit-is before sound agrees fault why)),
    agrees,
  ))

  fit-is : (before : World) → WorldInvariant before → CoreAgrees Old before → (line : ℕ) → Admits store directory ask line → setup_fault before ask ≡ None
  fit-is before sound agrees line admits =
      tests-are before false false false true false
      (is-live before agrees admits.live) (ap is_some (absent before agrees admits.new)) (some-is (length ask.contracts.items) admits.some)
      (some-room before sound agrees line admits.within admits.free)
      (unworn-is before.incarnations (omega (arith, agrees.seatings.used_up, admits.unworn)))

  module _ (number : ℕ) (admits : Admits store directory ask number) (new : DirectoryView) (result : Result Owner (DeskFault × Ask))
      (after : List LineView) (change : ChangesLine lines number (SetsUpOrRefuses directory new number ask result) after) where
    pub setup-goes : (owner : Owner) → result ≡ Ok owner → Follows Old (Setup ask) (SetUp owner) (core_of shape store new after ports)
    setup-goes owner is = follows Old _ (Setup ask) (SetUp owner) (λ before sound agrees.
        let line = change.line in
        let next = change.next in
        let did : TakesLine directory new number ask owner line next =
        subst (λ (r : Result Owner (DeskFault × Ask)). SetsUpOrRefuses directory new number ask r line next) is change.did in
        let connection : Connection = new_connection ask number (before.incarnations + 1) in
        let given : owner ≡ record { vc = ask.vc; incarnation = before.incarnations + 1 } =
        did.given ∙ ap (λ (n : ℕ). record { vc = ask.vc; incarnation = n + 1 }) agrees.seatings.used_up in
        let counts : line.state.counts ≡ tally_of (before.verdicts number) = agrees.lines.counts number line change.there in
        let none = absent before agrees admits.new in
        let changed : Change before.shape lines before.connections before.verdicts agrees.lines number line next before.verdicts = record {
          there = change.there;
          journal = did.opened.journal;
          counts = did.opened.state.counts ∙ counts;
          others = λ other apart. refl;
        } in
        let lines_after = lines-with before.shape lines before.connections before.verdicts agrees.lines number line next before.verdicts changed
        ask.vc connection refl (open-serves ask number (before.incarnations + 1) line next owner (before.verdicts number) given did.opened did.history counts)
        (λ other another apart found. admits.free other (seating_of another) (agrees.seatings.seatings other ∙ ap (option_map seating_of) found))
        (λ old found. let is_none : None ≡ Some old = sym none ∙ found in absurd (cc)) in
        let world : World = record before {
          connections = with_connection before.connections ask.vc connection;
          incarnations = before.incarnations + 1;
        } in
        let seating : Sits directory ask.vc (Some (seating_of connection)) new =
        subst (λ (n : ℕ). Sits directory ask.vc (Some (record { line = number; incarnation = n + 1; program = ask.program })) new)
        agrees.seatings.used_up did.seating in (
          world,
          step-taken before world (Setup ask) (SetUp owner)
              (ap (option_map (λ f. NotSetUp f ask)) (fit-is before sound agrees number admits)) (record {
                line = number;
                within = omega (arith, admits.within, agrees.seatings.lines);
                open_line = line-open before sound agrees number admits.free;
                answer = ap SetUp given;
                world = refl;
              }),
          record {
            shape = agrees.shape;
            store = agrees.store;
            seatings = seatings-with before.shape directory before.connections before.incarnations agrees.seatings ask.vc connection new (before.incarnations + 1)
                seating (did.used ∙ ap (λ (n : ℕ). n + 1) agrees.seatings.used_up);
            lines = subst (λ (list : List LineView). LinesAgree before.shape list (with_connection before.connections ask.vc connection) before.verdicts)
                (sym change.after) lines_after;
            ports = agrees.ports;
          },
        ))

    -- A setup on an open line fails only if an allocation fails.
    only-memory : (before : World) → CoreAgrees Old before → (fault : DeskFault) → IsUnready change.line fault → fault ≡ NoMemory
    only-memory before agrees NoProgram why = absurd why
    only-memory before agrees NoConnection why = absurd why
    only-memory before agrees Taken why = absurd why
    only-memory before agrees NoLine why = absurd why
    only-memory before agrees InUse why = absurd why
    only-memory before agrees ProgramsFull why = absurd why
    only-memory before agrees Exhausted why = absurd why
    only-memory before agrees BadContracts why = absurd why
    only-memory before agrees Busy why = absurd why
    only-memory before agrees NoMemory why = refl
    only-memory before agrees Stale why =
        let held = there_is change.line.owner why in
        let of = agrees.lines.owned number change.line held.0 change.there held.1 in
        absurd (admits.free held.0.vc (seating_of of.connection) (agrees.seatings.seatings held.0.vc ∙ ap (option_map seating_of) of.found) of.line)

    pub setup-refused : (fault : DeskFault) (returned : Ask) → result ≡ Err (fault, returned)
        → Follows Old (Setup ask) (NotSetUp fault returned) (core_of shape store new after ports)
    setup-refused fault returned is = follows Old _ (Setup ask) (NotSetUp fault returned) (λ before sound agrees.
        let did = subst (λ (r : Result Owner (DeskFault × Ask)). SetsUpOrRefuses directory new number ask r change.line change.next) is change.did in
        let memory : fault ≡ NoMemory = only-memory before agrees fault did.0 in
        let reply : NotSetUp NoMemory ask ≡ NotSetUp fault returned =
        ap (λ f. NotSetUp f ask) (sym memory) ∙ ap (NotSetUp fault) (sym did.1) in (
          before,
          subst (λ (r : Reply). WorldStep before (Setup ask) r before) reply
              (step-without_memory before (Setup ask) (NotSetUp NoMemory ask)
              (ap (option_map (λ f. NotSetUp f ask)) (fit-is before sound agrees number admits)) refl),
          record {
            shape = agrees.shape;
            store = agrees.store;
            seatings = subst (λ (d : DirectoryView). SeatingsAgree before.shape d before.connections before.incarnations) (sym did.2) agrees.seatings;
            lines = subst (λ (list : List LineView). LinesAgree before.shape list before.connections before.verdicts) (sym change.after)
                (lines-ready before.shape lines before.connections before.verdicts agrees.lines number change.line change.next change.there (readied change.line change.next did.4));
            ports = agrees.ports;
          },
        ))
