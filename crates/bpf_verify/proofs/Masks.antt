-- The masks of stored words, while the check goes through the code once.
use Rattle.std.proofs.Common.{◌≡◌, ℕ, zero, suc, ◌+◌, ◌<◌, ◌⊎◌, inl, inr, min, List, [], ◌∷◌, length, get_or, replicate, Any, refl, ap, sym, ◌∙◌, subst, arith}
use Rattle.std.specs.Int.{bit_at}
use Rattle.std.proofs.lemmas.Bool.{cases_lt}
use Rattle.std.proofs.lemmas.Grind.{common_steps}
use Rattle.std.proofs.lemmas.Nat.Bits.{bit_at-lt, bit_at-zero, bit_at_ones}
use Rattle.bpf_code.specs.declared.instr.Instr.{Instr}
use Rattle.bpf_code.specs.declared.instr.Instr.TheVariants.{Store, StoreX}
use Rattle.bpf_code.specs.Flow.{IsSuccessor, LeadsTo, IsInstrAt}
use Rattle.bpf_code.specs.Scratch.{ReadsWord, StoresWord}
use Rattle.bpf_verify.specs.Faults.{IsUnwrittenAt}
use Rattle.bpf_verify.specs.Paths.{IsPath, IsWrittenAt, Stores}
use Rattle.bpf_verify.proofs.Onward.{decide_leads, decide_same, successor_forward}
use Rattle.bpf_verify.proofs.Places.{any_here, any_later, any_none, any_split, one_there}

-- Initially each of the masks has every word.
pub all_begin : (size all place : ℕ) → place < size → get_or (replicate size all) place 0 ≡ all
all_begin size all place lt = grind (arith, common_steps)

-- The latest place of a path is before the bound.
abbrev pub IsBefore : List ℕ → ℕ → Type 0
IsBefore [] bound = Unit {0}
IsBefore (latest ∷ passed) bound = latest < bound

-- The mask of each place has exactly the words that all paths to it store, of the paths whose latest place is before
-- the bound.
pub record AreWritten (code : List Instr) (masks : List ℕ) (bound : ℕ) : Type 0 where
  pub has : (place word : ℕ) → bit_at (get_or masks place 0) word ≡ 1
      → (passed : List ℕ) → IsPath code passed place → IsBefore passed bound → Any (Stores code word) passed
  pub lacks : (place word : ℕ) → place < length masks → word < 16 → bit_at (get_or masks place 0) word ≡ 0
      → (passed : List ℕ) × IsPath code passed place × IsBefore passed bound × (Any (Stores code word) passed → ⊥)

-- The latest place of a path is before the place that it reaches.
pub path_before : (code : List Instr) (passed : List ℕ) (place : ℕ) → IsPath code passed place → IsBefore passed place
path_before code [] place path = tt
path_before code (latest ∷ passed) place path = successor_forward code latest place path.1

before_more : (passed : List ℕ) (bound : ℕ) → IsBefore passed bound → IsBefore passed (bound + 1)
before_more [] bound h = tt
before_more (latest ∷ passed) bound h = omega (arith, h)

-- Initially the only known path is the empty one.
pub written-at_first : (code : List Instr) (masks : List ℕ) → get_or masks 0 0 ≡ 0
    → ((place : ℕ) → 0 < place → place < length masks → get_or masks place 0 ≡ 65535) → AreWritten code masks 0
written-at_first code masks first rest = record {
  has = λ place word one passed path before. nothing passed place word one path before;
  lacks = λ place word within lt none. elim (cases_lt 0 place) [
    | inl gt ↦ absurd (let one : bit_at 65535 word ≡ 1 = bit_at_ones 16 word lt in omega (arith, one, ap (λ mask. bit_at mask word) (rest place gt within), none))
    | inr le ↦ ([], omega arith, tt, any_none (Stores code word))
  ];
}
  where
    nothing : (passed : List ℕ) (place word : ℕ) → bit_at (get_or masks place 0) word ≡ 1 → IsPath code passed place → IsBefore passed 0 → Any (Stores code word) passed
    nothing [] place word one path before =
        absurd (omega (arith, one, ap (λ p. bit_at (get_or masks p 0) word) path, ap (λ mask. bit_at mask word) first, bit_at-zero word))
    nothing (latest ∷ passed) place word one path before = absurd (omega (arith, before))

pub decide_store : (i : Instr) (word : ℕ) → StoresWord i word ⊎ (StoresWord i word → ⊥)
decide_store (Store k) word = decide_same word k
decide_store (StoreX k) word = decide_same word k
decide_store _ word = inr (λ h. h)

-- The minimum of two bits is 1 if both are 1, and 0 if one is 0.
least_one : (least a b : ℕ) → least ≡ min a b → a < 2 → b < 2 → least ≡ 1 → (a ≡ 1) × (b ≡ 1)
least_one least a b is la lb one = (omega arith, omega arith)

least_zero : (least a b : ℕ) → least ≡ min a b → a < 2 → b < 2 → least ≡ 0 → (a ≡ 0) ⊎ (b ≡ 0)
least_zero least zero b is la lb none = inl refl
least_zero least (suc a) b is la lb none = inr (omega arith)

-- One instruction changes the masks: its successors keep what is also in the mask after it, and all other places keep
-- theirs.
pub record ArePassedOn (i : Instr) (place mask : ℕ) (old new : List ℕ) : Type 0 where
  pub stored : (word : ℕ) → StoresWord i word → bit_at mask word ≡ 1
  pub kept : (word : ℕ) → (StoresWord i word → ⊥) → bit_at mask word ≡ bit_at (get_or old place 0) word
  pub successors : (next word : ℕ) → LeadsTo place i next
      → bit_at (get_or new next 0) word ≡ min (bit_at (get_or old next 0) word) (bit_at mask word)
  pub others : (other : ℕ) → (LeadsTo place i other → ⊥) → get_or new other 0 ≡ get_or old other 0
  pub same_length : length new ≡ length old

module _ (code : List Instr) (old new : List ℕ) (here mask : ℕ) (i : Instr) (instr_there : IsInstrAt code here i)
    (within : here < length old) (passes : ArePassedOn i here mask old new) (marks : AreWritten code old here) where
  -- Each path through the instruction stores each word of the mask after it.
  stored_through : (word : ℕ) → bit_at mask word ≡ 1 → (passed : List ℕ) → IsPath code passed here → Any (Stores code word) (here ∷ passed)
  stored_through word one passed path =
      elim (decide_store i word) [
        | inl stores ↦ any_here (Stores code word) here passed (i, instr_there, stores)
        | inr keeps ↦ any_later (Stores code word) here passed (marks.has here word (sym (passes.kept word keeps) ∙ one) passed path (path_before code passed here path))
      ]

  -- Some path through the instruction doesn't store a word that the mask after it lacks.
  unstored_through : (word : ℕ) → word < 16 → bit_at mask word ≡ 0 → (passed : List ℕ) × IsPath code passed here × (Any (Stores code word) (here ∷ passed) → ⊥)
  unstored_through word lt none =
      elim (decide_store i word) [
        | inl stores ↦ absurd (omega (arith, passes.stored word stores, none))
        | inr keeps ↦
            let before = marks.lacks here word within lt (sym (passes.kept word keeps) ∙ none) in (
              before.0,
              before.1,
              λ h. elim (any_split (Stores code word) here before.0 h) [
                | inl at_here ↦ keeps (subst (λ j. StoresWord j word) (one_there code here at_here.0 i at_here.1 instr_there) at_here.2)
                | inr later ↦ before.3 later
              ],
            )
      ]

  bits_one : (next word : ℕ) → LeadsTo here i next → bit_at (get_or new next 0) word ≡ 1 → (bit_at (get_or old next 0) word ≡ 1) × (bit_at mask word ≡ 1)
  bits_one next word leads one =
      least_one (bit_at (get_or new next 0) word) (bit_at (get_or old next 0) word) (bit_at mask word) (passes.successors next word leads) (bit_at-lt (get_or old next 0) word) (bit_at-lt mask word) one

  bits_zero : (next word : ℕ) → LeadsTo here i next → bit_at (get_or new next 0) word ≡ 0 → (bit_at (get_or old next 0) word ≡ 0) ⊎ (bit_at mask word ≡ 0)
  bits_zero next word leads none =
      least_zero (bit_at (get_or new next 0) word) (bit_at (get_or old next 0) word) (bit_at mask word) (passes.successors next word leads) (bit_at-lt (get_or old next 0) word) (bit_at-lt mask word) none

  -- A word that a mask has now was in it before.
  had : (place word : ℕ) → bit_at (get_or new place 0) word ≡ 1 → bit_at (get_or old place 0) word ≡ 1
  had place word one =
      elim (decide_leads here i place) [
        | inl leads ↦ (bits_one place word leads one).0
        | inr apart ↦ ap (λ m. bit_at m word) (sym (passes.others place apart)) ∙ one
      ]

  has_next : (place word : ℕ) → bit_at (get_or new place 0) word ≡ 1
      → (passed : List ℕ) → IsPath code passed place → IsBefore passed (here + 1) → Any (Stores code word) passed
  has_next place word one [] path before = marks.has place word (had place word one) [] path tt
  has_next place word one (latest ∷ passed) path before =
      elim (cases_lt latest here) [
        | inl lt ↦ marks.has place word (had place word one) (latest ∷ passed) path lt
        | inr le ↦
            let e : latest ≡ here = omega (arith, before) in
            let s : IsSuccessor code here place = subst (λ p. IsSuccessor code p place) e path.1 in
            let leads : LeadsTo here i place = subst (λ j. LeadsTo here j place) (one_there code here s.0 i s.1 instr_there) s.2 in
            let through = stored_through word (bits_one place word leads one).1 passed (subst (λ p. IsPath code passed p) e path.0) in
            subst (λ p. Any (Stores code word) (p ∷ passed)) (sym e) through
      ]

  lacked : (place word : ℕ) → place < length new → word < 16 → bit_at (get_or old place 0) word ≡ 0
      → (passed : List ℕ) × IsPath code passed place × IsBefore passed (here + 1) × (Any (Stores code word) passed → ⊥)
  lacked place word inside lt none =
      let before = marks.lacks place word (omega (arith, passes.same_length)) lt none in
      (before.0, before.1, before_more before.0 here before.2, before.3)

  lacks_next : (place word : ℕ) → place < length new → word < 16 → bit_at (get_or new place 0) word ≡ 0
      → (passed : List ℕ) × IsPath code passed place × IsBefore passed (here + 1) × (Any (Stores code word) passed → ⊥)
  lacks_next place word inside lt none =
      elim (decide_leads here i place) [
        | inr apart ↦ lacked place word inside lt (ap (λ m. bit_at m word) (sym (passes.others place apart)) ∙ none)
        | inl leads ↦ elim (bits_zero place word leads none) [
          | inl was ↦ lacked place word inside lt was
          | inr after ↦
              let through = unstored_through word lt after in
              (here ∷ through.0, (through.1, (i, instr_there, leads)), omega arith, through.2)
        ]
      ]

  pub written_next : AreWritten code new (here + 1)
  written_next = record { has = has_next; lacks = lacks_next }

-- When the check visits a place, its mask accounts for every path to it.
pub written-from_mask : (code : List Instr) (masks : List ℕ) (here : ℕ) (i : Instr) → IsInstrAt code here i → AreWritten code masks here
    → ((word : ℕ) → ReadsWord i word → bit_at (get_or masks here 0) word ≡ 1) → IsWrittenAt code here
written-from_mask code masks here i instr_there marks all word passed path reads =
    let reads_here : ReadsWord i word = subst (λ j. ReadsWord j word) (one_there code here reads.0 i reads.1 instr_there) reads.2 in
    marks.has here word (all word reads_here) passed path (path_before code passed here path)

pub unwritten-from_mask : (code : List Instr) (masks : List ℕ) (here word : ℕ) (i : Instr) → IsInstrAt code here i → AreWritten code masks here
    → here < length masks → word < 16 → ReadsWord i word → bit_at (get_or masks here 0) word ≡ 0 → IsUnwrittenAt code here word
unwritten-from_mask code masks here word i instr_there marks within lt reads none =
    let path = marks.lacks here word within lt none in
    ((i, instr_there, reads), (path.0, path.1, path.3))
