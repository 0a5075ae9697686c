-- The desk of a card that C has: its programs and connections.
use Rattle.std.specs.Prelude.{◌≡◌, ◌≤◌, ◌⊎◌, ◌<◌, ℕ, List, [], ◌∷◌, length, Option, Some, None, ⊤}
use Rattle.bpf_code.specs.OctetSpelling.{SpellsCode}
use Rattle.bpf_code.specs.declared.instr.Instr.{Instr}
use Rattle.bpf_verify.specs.Accepted.{IsAccepted}
use Rattle.card_core.specs.declared.ask.Ask.{Ask}
use Rattle.card_core.specs.declared.fault.DeskFault.{DeskFault}
use Rattle.card_core.specs.declared.fault.DeskFault.TheVariants as desk
use Rattle.card_core.specs.declared.reply.Reply.{Reply}
use Rattle.card_core.specs.declared.reply.Reply.TheVariants.{Loaded, NotLoaded, Retired, SetUp, NotSetUp, Reloaded, Refused}
use Rattle.card_core.specs.declared.shape.Shape.{Shape}
use Rattle.card_core.specs.declared.step.Step.{Step}
use Rattle.card_core.specs.declared.step.Step.TheVariants.{Load, Retire, Setup, Reload}
use Rattle.gen_arena.specs.declared.id.Id.{Id}
use Rattle.leaky.specs.declared.contract.Contract.{Contract}
use Rattle.line_record.specs.declared.owner.Owner.{Owner}
use Rattle.upc_cell.specs.Side.{last_vpi}
use Rattle.upc_cell.specs.declared.vc.Vc.{Vc}
use Rattle.upc_c.specs.CardHandle.{IsShapeIn, CardTakes, card_in, card_missing}
use Rattle.upc_c.specs.Faults.{plain_fault, out_of_memory}
use Rattle.upc_c.specs.GivenContract.{IsGivenContract, AreAContract, IsContractFault}
use Rattle.upc_c.specs.Programs.{IsDecodeRefusal, IsCheckRefusal}
use Rattle.upc_c.specs.declared.card.UpcCard.{UpcCard}
use Rattle.upc_c.specs.declared.contract.UpcContract.{UpcContract}
use Rattle.upc_c.specs.declared.fault.UpcFault.{UpcFault}
use Rattle.upc_c.specs.declared.id.UpcId.{UpcId}

-- The id with these numbers.
abbrev pub id_of : UpcId → Id
id_of given = record { slot = given.slot; generation = given.generation }

-- The id, as C has it.
abbrev pub id_for_c : Id → UpcId
id_for_c id = record { slot = id.slot; generation = id.generation }

-- An error of the desk as an error for C.
abbrev pub desk_fault_for_c : DeskFault → UpcFault
desk_fault_for_c desk.NoProgram = plain_fault 10 1 0
desk_fault_for_c desk.NoConnection = plain_fault 10 2 0
desk_fault_for_c desk.Taken = plain_fault 10 3 0
desk_fault_for_c desk.NoLine = plain_fault 10 4 0
desk_fault_for_c desk.InUse = plain_fault 10 5 0
desk_fault_for_c desk.ProgramsFull = plain_fault 10 6 0
desk_fault_for_c desk.Exhausted = plain_fault 10 7 0
desk_fault_for_c desk.BadContracts = plain_fault 10 8 0
desk_fault_for_c desk.Busy = plain_fault 10 9 0
desk_fault_for_c desk.NoMemory = out_of_memory
desk_fault_for_c desk.Stale = plain_fault 10 11 0

-- The error of the desk in a reply, if it has one.
abbrev pub reason_of : Reply → Option DeskFault
reason_of (NotLoaded fault code) = Some fault
reason_of (NotSetUp fault ask) = Some fault
reason_of (Refused fault) = Some fault
reason_of _ = None

-- The card took the step and refused it, and this is the error for C.
pub record RefusesStep (before after : UpcCard) (step : Step) (fault : UpcFault) : Type 0 where
  pub reply : Reply
  pub taken : CardTakes before after step reply
  pub reason : DeskFault
  pub refused : reason_of reply ≡ Some reason
  pub reported : fault ≡ desk_fault_for_c reason

-- The error of a step of the desk: there is no card, or the card refuses the step.
abbrev pub IsDeskFault : UpcCard → UpcCard → Step → UpcFault → Type 0
IsDeskFault before after step fault =
    ((card_in before ≡ None) × (fault ≡ card_missing)) ⊎ RefusesStep before after step fault

-- The program that the octets spell was loaded under this id.
abbrev pub IsLoaded : UpcCard → UpcCard → List ℕ → UpcId → Type 0
IsLoaded before after octets id = (code : List Instr) × SpellsCode octets code × IsAccepted code
    × CardTakes before after (Load code) (Loaded (id_of id))

-- The error if no program was loaded: the octets don't spell a program, or the step has an error.
abbrev pub IsLoadFault : UpcCard → UpcCard → List ℕ → UpcFault → Type 0
IsLoadFault before after octets fault =
    IsDecodeRefusal octets fault ⊎ IsCheckRefusal octets fault
    ⊎ ((code : List Instr) × SpellsCode octets code × IsAccepted code × IsDeskFault before after (Load code) fault)

-- The contracts with these numbers, in order.
abbrev pub AreGivenContracts : List UpcContract → List Contract → Type 0
AreGivenContracts [] [] = ⊤
AreGivenContracts [] (contract ∷ later) = ⊥
AreGivenContracts (given ∷ others) [] = ⊥
AreGivenContracts (given ∷ others) (contract ∷ later) = IsGivenContract given contract × AreGivenContracts others later

-- A connection may have these contracts: there are at most four, and all of them are contracts.
abbrev pub AreAllContracts : List UpcContract → Type 0
AreAllContracts given = (length given ≤ 4) × ((contracts : List Contract) × AreGivenContracts given contracts)

-- The first of these that is no contract has this error.
abbrev pub IsFirstContractFault : List UpcContract → UpcFault → Type 0
IsFirstContractFault [] fault = ⊥
IsFirstContractFault (given ∷ others) fault =
    IsContractFault given fault ⊎ (AreAContract given × IsFirstContractFault others fault)

-- A connection has at most four contracts: UPC_MANY_CONTRACTS.
abbrev pub too_many_contracts : UpcFault
too_many_contracts = plain_fault 1 11 0

-- The error if a connection can't have these contracts: there are more than four; else that of the first that is no
-- contract.
abbrev pub IsContractsFault : List UpcContract → UpcFault → Type 0
IsContractsFault given fault =
    ((4 < length given) × (fault ≡ too_many_contracts)) ⊎ ((length given ≤ 4) × IsFirstContractFault given fault)

-- The path is above the highest at the card's side: UPC_LARGE_PATH.
abbrev pub path_too_large : UpcFault
path_too_large = plain_fault 1 10 0

-- There is a card, and the path is above the highest at its side.
abbrev pub HasNoPath : UpcCard → ℕ → Type 0
HasNoPath card path = (shape : Shape) × IsShapeIn card shape × (last_vpi shape.side < path)

-- There is a card, its side has this path, and this is the virtual connection of the path and the channel.
pub record IsVc (card : UpcCard) (vpi vci : ℕ) (vc : Vc) : Type 0 where
  pub shape : Shape
  pub has : IsShapeIn card shape
  pub within : vpi ≤ last_vpi shape.side
  pub path : vc.vpi ≡ vpi
  pub channel : vc.vci ≡ vci

-- The request to the desk with these numbers, which has at most four contracts.
pub record IsAsk (card : UpcCard) (path channel : ℕ) (named : UpcId) (given : List UpcContract) (ask : Ask) : Type 0 where
  pub vc : IsVc card path channel ask.vc
  pub program : ask.program ≡ id_of named
  pub few : length given ≤ 4
  pub contracts : AreGivenContracts given ask.contracts.items

-- The connection was set up.
abbrev pub IsSetUp : UpcCard → UpcCard → ℕ → ℕ → UpcId → List UpcContract → Type 0
IsSetUp before after path channel program given = (ask : Ask) × IsAsk before path channel program given ask
    × ((owner : Owner) × CardTakes before after (Setup ask) (SetUp owner))

-- The error if no connection was set up: that of the contracts; else there is no card; else the card's side has no such
-- path; else that of the step.
abbrev pub IsSetupFault : UpcCard → UpcCard → ℕ → ℕ → UpcId → List UpcContract → UpcFault → Type 0
IsSetupFault before after path channel program given fault =
    IsContractsFault given fault
    ⊎ (AreAllContracts given × (card_in before ≡ None) × (fault ≡ card_missing))
    ⊎ (AreAllContracts given × HasNoPath before path × (fault ≡ path_too_large))
    ⊎ ((ask : Ask) × IsAsk before path channel program given ask × IsDeskFault before after (Setup ask) fault)

-- The program was retired.
abbrev pub IsRetired : UpcCard → UpcCard → UpcId → Type 0
IsRetired before after id = (code : List Instr) × CardTakes before after (Retire (id_of id)) (Retired code)

-- The connection got this program instead of the earlier one.
abbrev pub IsReloaded : UpcCard → UpcCard → ℕ → ℕ → UpcId → UpcId → Type 0
IsReloaded before after path channel program earlier = (vc : Vc) × IsVc before path channel vc
    × CardTakes before after (Reload vc (id_of program)) (Reloaded (id_of earlier))

-- The error of a step for the connection of this path and channel: there is no card; then, the card's side has no such
-- path; then, the step has an error.
abbrev pub IsConnectionFault : UpcCard → UpcCard → ℕ → ℕ → (Vc → Step) → UpcFault → Type 0
IsConnectionFault before after path channel step fault =
    ((card_in before ≡ None) × (fault ≡ card_missing))
    ⊎ (HasNoPath before path × (fault ≡ path_too_large))
    ⊎ ((vc : Vc) × IsVc before path channel vc × IsDeskFault before after (step vc) fault)
