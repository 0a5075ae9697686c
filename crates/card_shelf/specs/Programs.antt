-- A program on every card of a shelf: it is loaded on each card or on none, and retired from each card or from none.
use Rattle.std.specs.Prelude.{◌≡◌, ◌≢◌, ◌<◌, ℕ, List, length, Some, None, slice_get}
use Rattle.bpf_code.specs.declared.instr.Instr.{Instr}
use Rattle.gen_arena.specs.declared.id.Id.{Id}
use Rattle.card_core.specs.Agreement.{CoreView}
use Rattle.card_core.specs.Inspection.{load_fault_of, IsRetireFault, PutsIn, TakesOut}
use Rattle.card_core.specs.declared.fault.DeskFault.{DeskFault}
use Rattle.card_core.specs.declared.reply.Reply.TheVariants.{Loaded, Retired}
use Rattle.card_core.specs.declared.step.Step.TheVariants.{Load, Retire}
use Rattle.card_shelf.specs.declared.fault.ProgramFault.{ProgramFault}
use Rattle.card_shelf.specs.declared.fault.ProgramFault.TheVariants.{NoMemory, Ids, Card}
use Rattle.card_shelf.specs.Shelf.{TakesStep}

-- The card had no reason to refuse a program, and took the step Load: the code is live there under this id.
pub record LoadsOn (code : List Instr) (id : Id) (old new : CoreView) : Type 0 where
  pub free : load_fault_of old ≡ None
  pub takes : TakesStep (Load code) (Loaded id) old new
  pub puts_in : PutsIn old id code new

-- Every card has loaded this code, each under the id at its place.
pub record LoadsEach (old : List CoreView) (code : List Instr) (ids : List Id) (new : List CoreView) : Type 0 where
  pub cards : length new ≡ length old
  pub one_each : length ids ≡ length old
  pub each : (number : ℕ) (card next : CoreView) (id : Id) → slice_get old number ≡ Some card
      → slice_get new number ≡ Some next → slice_get ids number ≡ Some id → LoadsOn code id card next

-- No card has a reason to refuse a program.
abbrev pub EachHasRoom : List CoreView → Type 0
EachHasRoom cards = (number : ℕ) (card : CoreView) → slice_get cards number ≡ Some card → load_fault_of card ≡ None

-- The card of this number has this reason to refuse a program, and no card before it has any.
pub record IsFirstLoadFault (cards : List CoreView) (number : ℕ) (fault : DeskFault) : Type 0 where
  pub card : CoreView
  pub there : slice_get cards number ≡ Some card
  pub reason : load_fault_of card ≡ Some fault
  pub earlier : (before : ℕ) (other : CoreView) → before < number → slice_get cards before ≡ Some other
      → load_fault_of other ≡ None

-- Why a program was loaded on no card. `Card`: this is the first card that has a reason to refuse it, with its reason.
-- `NoMemory`: no card has a reason to refuse it.
abbrev pub IsLoadRefusal : List CoreView → ProgramFault → Type 0
IsLoadRefusal cards NoMemory = EachHasRoom cards
IsLoadRefusal cards Ids = ⊥
IsLoadRefusal cards (Card number fault) = IsFirstLoadFault cards number fault

-- The card had no reason to keep the program of this id, and took the step Retire: the id is not live there.
pub record RetiresOn (id : Id) (old new : CoreView) : Type 0 where
  pub free : IsRetireFault old id None
  pub code : List Instr
  pub takes : TakesStep (Retire id) (Retired code) old new
  pub takes_out : TakesOut old id code new

-- Every card has retired a program, each the program of the id at its place.
pub record RetiresEach (old : List CoreView) (ids : List Id) (new : List CoreView) : Type 0 where
  pub cards : length new ≡ length old
  pub one_each : length ids ≡ length old
  pub each : (number : ℕ) (card next : CoreView) (id : Id) → slice_get old number ≡ Some card
      → slice_get new number ≡ Some next → slice_get ids number ≡ Some id → RetiresOn id card next

-- The card of this number has this reason to keep the program of the id at its place, and no card before it has any.
pub record IsFirstRetireFault (cards : List CoreView) (ids : List Id) (number : ℕ) (fault : DeskFault) : Type 0 where
  pub one_each : length ids ≡ length cards
  pub card : CoreView
  pub there : slice_get cards number ≡ Some card
  pub id : Id
  pub named : slice_get ids number ≡ Some id
  pub reason : IsRetireFault card id (Some fault)
  pub earlier : (before : ℕ) (other : CoreView) (another : Id) → before < number → slice_get cards before ≡ Some other
      → slice_get ids before ≡ Some another → IsRetireFault other another None

-- Why no card has retired a program. `Ids`: the list does not have one id for each card. `Card`: this is the first card
-- that has a reason to keep its program, with its reason.
abbrev pub IsRetireRefusal : List CoreView → List Id → ProgramFault → Type 0
IsRetireRefusal cards ids NoMemory = ⊥
IsRetireRefusal cards ids Ids = length ids ≢ length cards
IsRetireRefusal cards ids (Card number fault) = IsFirstRetireFault cards ids number fault
