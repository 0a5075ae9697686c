-- A card stays beside a shelf through a batch of arrivals that both police: both decide alike.
use Rattle.std.proofs.Common.{◌≡◌, ℕ, ◌+◌, ◌*◌, ◌≤◌, ◌<◌, List, [], ◌∷◌, length, map, refl, sym, ap, ◌∙◌, arith}
use Rattle.std.proofs.lemmas.List.{length-append, length-map}
use Rattle.std.proofs.lemmas.Option.{same_Some, slice_get_within}
use Rattle.upc_cell.specs.declared.side.Side.{Side}
use Rattle.card_core.specs.Agreement.{CoreView}
use Rattle.card_core.specs.Log.{Event}
use Rattle.card_core.specs.Sections.{answer_to}
use Rattle.card_core.specs.World.{Loading}
use Rattle.card_isolation.specs.Outcome.{Outcome, outcome_of}
use Rattle.card_shelf.specs.declared.arrival.Arrival.{Arrival}
use Rattle.card_shelf.specs.Calls.{CardState, ShelfState, CardPolices, ShelfPolices, police, codes_at, outcomes_of, outcomes_on}
use Rattle.card_shelf.specs.Dealing.{card_for}
use Rattle.card_shelf.specs.Life.{GoOnBeside, card_state_of, shelf_state_of}
use Rattle.card_shelf.specs.Logs.{GoesOnBy}
use Rattle.card_shelf.specs.OneCard.{LoggedCard, LoggedShelf, IsBeside, HaveTimeFor, codes_in, AreDecidedAlike}
use Rattle.card_shelf.specs.Own.{own_arrivals, own_decisions}
use Rattle.card_shelf.specs.Policing.{PolicesAll}
use Rattle.card_shelf.proofs.Beside.{all-on, KeepsCodes}
use Rattle.card_shelf.proofs.GoingOn.{ways-short}
use Rattle.card_shelf.proofs.Lists.{there, map-there, same-lists}
use Rattle.card_shelf.proofs.OwnLemmas.{Decision, own-few}
use Rattle.card_shelf.proofs.ServiceBeside.{codes-at}

-- Logs that keep the codes, place by place, have the same codes.
kept-codes : (logs grown : List (List Event)) → length grown ≡ length logs → KeepsCodes logs grown → map codes_in logs ≡ map codes_in grown
kept-codes logs grown sized keeps =
    same-lists (map codes_in grown) (map codes_in logs) (length-map grown codes_in ∙ sized ∙ sym (length-map logs codes_in))
    (λ k x y is is_too.
    let from = map-there codes_in grown k x is in
    let was = map-there codes_in logs k y is_too in
    let kept = keeps k from.0 from.1 in
    let same : kept.0 ≡ was.0 = same_Some kept.0 was.0 (sym kept.1 ∙ was.1) in
    sym was.2 ∙ ap codes_in (sym same) ∙ sym kept.2 ∙ from.2)

-- Where both decide alike about each arrival, their outcomes are the same.
decisions-same : (side : Side) (log longer : List Event) (logs grown : List (List Event)) (xs : List Arrival) (answers decisions : List Decision)
    → 0 < length logs → codes_in longer ≡ codes_in log → length grown ≡ length logs → KeepsCodes logs grown
    → AreDecidedAlike side longer grown xs answers decisions
    → outcomes_on side (map codes_in logs) xs decisions ≡ outcomes_of (codes_in log) xs answers
decisions-same side log longer logs grown [] [] [] some codes sized keeps alike = refl
decisions-same side log longer logs grown [] [] (t ∷ ts) some codes sized keeps alike = absurd alike
decisions-same side log longer logs grown [] (a ∷ answers) decisions some codes sized keeps alike = absurd alike
decisions-same side log longer logs grown (x ∷ xs) [] decisions some codes sized keeps alike = absurd alike
decisions-same side log longer logs grown (x ∷ xs) (a ∷ answers) [] some codes sized keeps alike = absurd alike
decisions-same side log longer logs grown (x ∷ xs) (a ∷ answers) (t ∷ ts) some codes sized keeps alike =
    let number = card_for side (length grown) x in
    let own = there grown number (omega (arith, some, sized)) in
    let was = keeps number own.0 own.1 in
    let same_codes : codes_at (map codes_in logs) (card_for side (length (map codes_in logs)) x) ≡ codes_in own.0 =
    ap (λ (n : ℕ). codes_at (map codes_in logs) (card_for side n x)) (length-map logs codes_in ∙ sym sized) ∙ codes-at logs number was.0 was.1 ∙ sym was.2 in
    let first : outcome_of (codes_at (map codes_in logs) (card_for side (length (map codes_in logs)) x)) (answer_to x.cell t) ≡ outcome_of (codes_in log) (answer_to x.cell a) =
    ap (λ (cs : List Loading). outcome_of cs (answer_to x.cell t)) same_codes ∙ sym (alike.0 own.0 own.1)
    ∙ ap (λ (cs : List Loading). outcome_of cs (answer_to x.cell a)) codes in
    let later = decisions-same side log longer logs grown xs answers ts some codes sized keeps alike.1 in
    ap (λ (o : Outcome). o ∷ outcomes_on side (map codes_in logs) xs ts) first
    ∙ ap (λ (os : List Outcome). outcome_of (codes_in log) (answer_to x.cell a) ∷ os) later

-- Both decide alike about a batch, which may have no arrival.
batch-same : (side : Side) (old new : List CoreView) (log longer : List Event) (logs grown : List (List Event)) (xs : List Arrival) (answers decisions : List Decision)
    → length logs ≡ length old → PolicesAll side old xs decisions new
    → codes_in longer ≡ codes_in log → length grown ≡ length logs → KeepsCodes logs grown
    → AreDecidedAlike side longer grown xs answers decisions
    → outcomes_on side (map codes_in logs) xs decisions ≡ outcomes_of (codes_in log) xs answers
batch-same side old new log longer logs grown [] answers decisions has polices codes sized keeps alike = refl
batch-same side old new log longer logs grown (x ∷ xs) answers [] has polices codes sized keeps alike = absurd polices
batch-same side old new log longer logs grown (x ∷ xs) answers (t ∷ ts) has polices codes sized keeps alike =
    let within = slice_get_within old (card_for side (length old) x) polices.1.card polices.1.there in
    decisions-same side log longer logs grown (x ∷ xs) answers (t ∷ ts) (omega (arith, within, has)) codes sized keeps alike

-- A log has gone on by at most three events an arrival.
grown-short : (log own : List Event) (arrivals : List Arrival) (decisions : List Decision) → GoesOnBy log arrivals decisions own → length own ≤ length log + 3 * length arrivals
grown-short log own arrivals decisions goes =
    let few = ways-short arrivals decisions goes.way goes.steps in
    omega (arith, few, ap length goes.log, length-append log goes.way)

pub police-keeps : (one : LoggedCard) (shelf : LoggedShelf) (arrivals : List Arrival) (answers decisions : List Outcome) (next : CardState) (new : ShelfState)
    → IsBeside one shelf → HaveTimeFor (3 * length arrivals) one shelf
    → CardPolices arrivals (card_state_of one) answers next → ShelfPolices shelf.shape.side arrivals (shelf_state_of shelf) decisions new
    → GoOnBeside one shelf (police arrivals) answers decisions next new
police-keeps one shelf arrivals answers decisions next new beside time here there_too =
    let all = all-on one.shape shelf.shape beside.logged.side beside.logged.journal one.log one.card next.card shelf.logs shelf.cards new.cards arrivals here.decisions there_too.decisions
    beside time.here time.each here.answers there_too.answers in
    record {
      log = all.longer;
      logs = all.grown;
      beside = all.beside;
      codes = here.codes ∙ sym all.codes;
      codes_on = there_too.codes ∙ kept-codes shelf.logs all.grown all.sized all.each;
      time = λ further had. record {
        here = (let few = grown-short one.log all.longer arrivals here.decisions all.goes in omega (arith, few, had.here));
        each = λ number own is.
            let was = all.each_goes number own is in
            let few = grown-short was.0 own (own_arrivals shelf.shape.side (length shelf.logs) number arrivals)
            (own_decisions shelf.shape.side (length shelf.logs) number arrivals there_too.decisions) was.2 in
            let fewer = own-few shelf.shape.side (length shelf.logs) number arrivals in
            let room = had.each number was.0 was.1 in
            omega (arith, few, fewer, room);
      };
      same = there_too.returns
          ∙ batch-same shelf.shape.side shelf.cards new.cards one.log all.longer shelf.logs all.grown arrivals here.decisions there_too.decisions beside.logged.sized there_too.answers
          all.codes all.sized all.each all.alike
          ∙ sym here.returns;
    }
