-- Calls at a shelf, and the same calls at one card: what each does, and its outcome. An outcome has no line number, no
-- count and no id, since these belong to a card.
use Rattle.std.specs.Prelude.{◌≡◌, ℕ, List, [], ◌∷◌, length, Some, Result, unwrap_or, slice_get}
use Rattle.upc_cell.specs.declared.side.Side.{Side}
use Rattle.upc_cell.specs.declared.vc.Vc.{Vc}
use Rattle.bpf_code.specs.declared.instr.Instr.{Instr}
use Rattle.gen_arena.specs.declared.id.Id.{Id}
use Rattle.leaky.specs.declared.contract.Contract.{Contract}
use Rattle.line_record.specs.declared.owner.Owner.{Owner}
use Rattle.line_record.specs.Piece.{PieceView}
use Rattle.card_core.specs.Agreement.{CoreView}
use Rattle.card_core.specs.Sections.{answer_to}
use Rattle.card_core.specs.World.{Loading, code_in}
use Rattle.card_core.specs.declared.answer.Judgement.{Judgement}
use Rattle.card_core.specs.declared.answer.Unjudged.{Unjudged}
use Rattle.card_core.specs.declared.ask.Ask.{Ask}
use Rattle.card_core.specs.declared.reply.Reply.TheVariants.{Loaded, Retired, SetUp, Reloaded, Released, Cut as CutOff}
use Rattle.card_core.specs.declared.step.Step.TheVariants.{Load, Retire, Setup, Reload, Release, Cut}
use Rattle.card_isolation.specs.Outcome.{Outcome, done, named_before, outcome_of, outcome_of_piece}
use Rattle.card_shelf.specs.declared.arrival.Arrival.{Arrival}
use Rattle.card_shelf.specs.Dealing.{card_of, card_for}
use Rattle.card_shelf.specs.Own.{ServesAll}
use Rattle.card_shelf.specs.Policing.{PolicesAll}
use Rattle.card_shelf.specs.Programs.{LoadsEach, RetiresEach}
use Rattle.card_shelf.specs.Shelf.{ChangesCard, TakesStep}

-- What the desk does for a connection: it sets the connection up under these contracts with a program of this code,
-- gives it a program of this code, releases it, or cuts it.
pub data Service : Type 0 where
  set_up : List Contract → List Instr → Service
  reload : List Instr → Service
  release : Service
  cut : Service

-- A call: these arrivals are policed; a program of this code is loaded; a program is retired, which no connection names;
-- or the desk does this for a connection. A shelf loads a program on every card, and retires one from every card.
pub data Call : Type 0 where
  police : List Arrival → Call
  load : List Instr → Call
  retire : Call
  serve : Vc → Service → Call

-- A card, and the codes that were loaded on it so far, each under its id.
pub record CardState : Type 0 where
  pub card : CoreView
  pub codes : List Loading

-- The cards of a shelf, and for each the codes that were loaded on it so far, each under its id there.
pub record ShelfState : Type 0 where
  pub cards : List CoreView
  pub codes : List (List Loading)

-- The card, where these codes are loaded, takes the step Setup for the connection.
pub record GrantsSetup (codes : List Loading) (vc : Vc) (contracts : List Contract) (code : List Instr) (outcome : Outcome)
    (old new : CoreView) : Type 0 where
  pub ask : Ask
  pub owner : Owner
  pub connection : ask.vc ≡ vc
  pub under : ask.contracts.items ≡ contracts
  pub program : code_in codes ask.program ≡ Some code
  pub takes : TakesStep (Setup ask) (SetUp owner) old new
  pub returns : outcome ≡ done

-- The card, where these codes are loaded, takes the step Reload for the connection. The outcome has the code of the
-- program that the connection had before.
pub record GrantsReload (codes : List Loading) (vc : Vc) (code : List Instr) (outcome : Outcome) (old new : CoreView) : Type 0 where
  pub id : Id
  pub before : Id
  pub program : code_in codes id ≡ Some code
  pub takes : TakesStep (Reload vc id) (Reloaded before) old new
  pub returns : outcome ≡ named_before (code_in codes before)

-- The card takes the step Release for the connection. The outcome has the contracts and the entries of its last journal.
pub record GrantsRelease (vc : Vc) (outcome : Outcome) (old new : CoreView) : Type 0 where
  pub piece : PieceView
  pub takes : TakesStep (Release vc) (Released piece) old new
  pub returns : outcome ≡ outcome_of_piece piece

-- The card takes the step Cut for the connection. The outcome has the contracts and the entries of its journal.
pub record GrantsCut (vc : Vc) (outcome : Outcome) (old new : CoreView) : Type 0 where
  pub piece : PieceView
  pub takes : TakesStep (Cut vc) (CutOff piece) old new
  pub returns : outcome ≡ outcome_of_piece piece

-- The card, where these codes are loaded, does this for the connection, with this outcome.
abbrev pub Grants : List Loading → Vc → Service → Outcome → CoreView → CoreView → Type 0
Grants codes vc (set_up contracts code) outcome old new = GrantsSetup codes vc contracts code outcome old new
Grants codes vc (reload code) outcome old new = GrantsReload codes vc code outcome old new
Grants codes vc release outcome old new = GrantsRelease vc outcome old new
Grants codes vc cut outcome old new = GrantsCut vc outcome old new

-- The outcomes of these answers of a card to arrivals, where these codes are loaded: for each the moment, the value, the
-- code of the program that gave it, the verdict and the cell as it leaves, or why the cell was not judged.
abbrev pub outcomes_of : List Loading → List Arrival → List (Result Judgement Unjudged) → List Outcome
outcomes_of codes [] decisions = []
outcomes_of codes (arrival ∷ later) [] = []
outcomes_of codes (arrival ∷ later) (decision ∷ more) = outcome_of codes (answer_to arrival.cell decision) ∷ outcomes_of codes later more

-- The card polices these arrivals, one after another.
pub record CardPolices (arrivals : List Arrival) (old : CardState) (outcomes : List Outcome) (new : CardState) : Type 0 where
  pub decisions : List (Result Judgement Unjudged)
  pub answers : ServesAll old.card arrivals decisions new.card
  pub returns : outcomes ≡ outcomes_of old.codes arrivals decisions
  pub codes : new.codes ≡ old.codes

-- The card loads a program of this code.
pub record CardLoads (code : List Instr) (old : CardState) (outcomes : List Outcome) (new : CardState) : Type 0 where
  pub id : Id
  pub takes : TakesStep (Load code) (Loaded id) old.card new.card
  pub returns : outcomes ≡ done ∷ []
  pub codes : new.codes ≡ record { id = id; code = code } ∷ old.codes

-- The card retires a program.
pub record CardRetires (old : CardState) (outcomes : List Outcome) (new : CardState) : Type 0 where
  pub id : Id
  pub code : List Instr
  pub takes : TakesStep (Retire id) (Retired code) old.card new.card
  pub returns : outcomes ≡ done ∷ []
  pub codes : new.codes ≡ old.codes

-- The card does this for the connection.
pub record CardServes (vc : Vc) (service : Service) (old : CardState) (outcomes : List Outcome) (new : CardState) : Type 0 where
  pub outcome : Outcome
  pub grants : Grants old.codes vc service outcome old.card new.card
  pub returns : outcomes ≡ outcome ∷ []
  pub codes : new.codes ≡ old.codes

-- One card grants the call, with these outcomes: one for each arrival of a batch, and one for a call of the desk.
abbrev pub CardGrants : Call → CardState → List Outcome → CardState → Type 0
CardGrants (police arrivals) old outcomes new = CardPolices arrivals old outcomes new
CardGrants (load code) old outcomes new = CardLoads code old outcomes new
CardGrants retire old outcomes new = CardRetires old outcomes new
CardGrants (serve vc service) old outcomes new = CardServes vc service old outcomes new

-- The codes that are loaded on the card of this number.
abbrev pub codes_at : List (List Loading) → ℕ → List Loading
codes_at codes number = unwrap_or (slice_get codes number) []

-- The outcomes of these answers of a shelf to arrivals, where these codes are loaded on its cards. The code of a program
-- is that on the card of the arrival.
abbrev pub outcomes_on : Side → List (List Loading) → List Arrival → List (Result Judgement Unjudged) → List Outcome
outcomes_on side codes [] decisions = []
outcomes_on side codes (arrival ∷ later) [] = []
outcomes_on side codes (arrival ∷ later) (decision ∷ more) =
    outcome_of (codes_at codes (card_for side (length codes) arrival)) (answer_to arrival.cell decision)
    ∷ outcomes_on side codes later more

-- The codes of each card, once a program of this code was loaded on each under these ids.
abbrev pub with_code : List Instr → List Id → List (List Loading) → List (List Loading)
with_code code [] codes = codes
with_code code (id ∷ ids) [] = []
with_code code (id ∷ ids) (codes ∷ later) = (record { id = id; code = code } ∷ codes) ∷ with_code code ids later

-- The shelf polices these arrivals, as `Shelf::police` and `Shelf::police_in` do, on any number of threads.
pub record ShelfPolices (side : Side) (arrivals : List Arrival) (old : ShelfState) (outcomes : List Outcome) (new : ShelfState) : Type 0 where
  pub decisions : List (Result Judgement Unjudged)
  pub answers : PolicesAll side old.cards arrivals decisions new.cards
  pub returns : outcomes ≡ outcomes_on side old.codes arrivals decisions
  pub codes : new.codes ≡ old.codes

-- The shelf loads a program of this code on every card, as `Shelf::load` does.
pub record ShelfLoads (code : List Instr) (old : ShelfState) (outcomes : List Outcome) (new : ShelfState) : Type 0 where
  pub ids : List Id
  pub loads : LoadsEach old.cards code ids new.cards
  pub returns : outcomes ≡ done ∷ []
  pub codes : new.codes ≡ with_code code ids old.codes

-- The shelf retires a program from every card, as `Shelf::retire` does.
pub record ShelfRetires (old : ShelfState) (outcomes : List Outcome) (new : ShelfState) : Type 0 where
  pub ids : List Id
  pub retires : RetiresEach old.cards ids new.cards
  pub returns : outcomes ≡ done ∷ []
  pub codes : new.codes ≡ old.codes

-- The card that serves the connection does this for it, as in `Shelf::setup`, `reload`, `release` and `cut`. Every other
-- card is as before.
pub record ShelfServes (vc : Vc) (service : Service) (old : ShelfState) (outcomes : List Outcome) (new : ShelfState) : Type 0 where
  pub outcome : Outcome
  pub grants : ChangesCard old.cards (card_of vc (length old.cards))
      (Grants (codes_at old.codes (card_of vc (length old.codes))) vc service outcome) new.cards
  pub returns : outcomes ≡ outcome ∷ []
  pub codes : new.codes ≡ old.codes

-- The shelf grants the call, with these outcomes.
abbrev pub ShelfGrants : Side → Call → ShelfState → List Outcome → ShelfState → Type 0
ShelfGrants side (police arrivals) old outcomes new = ShelfPolices side arrivals old outcomes new
ShelfGrants side (load code) old outcomes new = ShelfLoads code old outcomes new
ShelfGrants side retire old outcomes new = ShelfRetires old outcomes new
ShelfGrants side (serve vc service) old outcomes new = ShelfServes vc service old outcomes new
