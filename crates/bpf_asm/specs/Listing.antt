-- The listing of a code.
use Rattle.std.specs.Prelude.{◌+◌, ◌≤◌, ◌<◌, ℕ, List, [], ◌∷◌, ◌++◌, length, Some, codes, decimal}
use Rattle.bpf_asm.specs.StatementSpelling.{Part, Statement, plain, jump, branch, spelling_octets, spellings}
use Rattle.bpf_asm.specs.declared.fault.ListFault.{ListFault}
use Rattle.bpf_asm.specs.declared.fault.ListFault.TheVariants.{JumpOutside, NoMemory}
use Rattle.bpf_code.specs.Flow.{IsInstrAt, JumpsTo}
use Rattle.bpf_code.specs.declared.instr.Instr.{Instr}
use Rattle.bpf_code.specs.declared.instr.Instr.TheVariants.{Jump, Branch}

-- The label of a place.
abbrev pub label_at : ℕ → List ℕ
label_at place = 76 ∷ decimal place

-- The statement of the instruction at this place, with the labels of its targets.
abbrev pub statement_at : ℕ → Instr → Statement
statement_at place (Jump k) = jump (label_at (place + 1 + k))
statement_at place (Branch test by jt jf) = branch test by (Some (label_at (place + 1 + jt))) (Some (label_at (place + 1 + jf)))
statement_at place i = plain i

-- The spelling that a listing uses: the first.
abbrev pub first_spelling : List (List Part) → List Part
first_spelling [] = []
first_spelling (spelling ∷ more) = spelling

-- The octets of the instruction at this place.
unfoldable pub instruction_text : ℕ → Instr → List ℕ
instruction_text place i = spelling_octets (first_spelling (spellings (statement_at place i)))

-- The line of an instruction: its label, its spelling and a line feed.
unfoldable pub line_text : ℕ → Instr → List ℕ
line_text place i = label_at place ++ codes ": " ++ instruction_text place i ++ codes "\n"

-- The lines of the code, the first of which is at this place.
unfoldable pub listing_from : ℕ → List Instr → List ℕ
listing_from place [] = []
listing_from place (i ∷ code) = line_text place i ++ listing_from (place + 1) code

-- The listing of a code.
abbrev pub listing_of : List Instr → List ℕ
listing_of code = listing_from 0 code

-- Every target of the instruction at this place is a place of a code of this many instructions.
abbrev pub StaysWithin : ℕ → ℕ → Instr → Type 0
StaysWithin count place i = (target : ℕ) → JumpsTo place i target → target < count

-- Some target of the instruction at this place is outside a code of this many instructions.
abbrev pub Leaves : ℕ → ℕ → Instr → Type 0
Leaves count place i = (target : ℕ) × JumpsTo place i target × (count ≤ target)

-- The first instruction that leaves the code is at this place.
pub record IsFirstLeaving (code : List Instr) (place : ℕ) : Type 0 where
  pub leaves : (i : Instr) × IsInstrAt code place i × Leaves (length code) place i
  pub before : (earlier : ℕ) (i : Instr) → earlier < place → IsInstrAt code earlier i → StaysWithin (length code) earlier i

-- The code may have this error: JumpOutside at the first instruction that leaves it. NoMemory is allowed for any code.
abbrev pub IsListFault : List Instr → ListFault → Type 0
IsListFault code (JumpOutside place) = IsFirstLeaving code place
IsListFault code NoMemory = Unit {0}
