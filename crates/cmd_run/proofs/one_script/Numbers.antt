-- The numbers of programs' names, in the order of loading. They distinguish programs, and remain when more programs are
-- loaded.
use Rattle.std.proofs.Common.{◌≡◌, ◌≢◌, ℕ, zero, suc, ◌<◌, ◌≤◌, ◌==◌, Bool, true, false, if◌then◌else◌, ◌⊎◌, List, [], ◌∷◌, ◌++◌, length, length-append, Option, Some, None, slice_get, nat_lt, refl, sym, ap, ◌∙◌, subst, inl, inr, arith}
use Rattle.std.specs.Bool.{⊤}
use Rattle.std.proofs.lemmas.Bool.{eq-eqb, ne_eqb, lt-ltb, le-ltb}
use Rattle.std.proofs.lemmas.Option.{same_Some, slice_get_within}
use Rattle.bpf_code.specs.declared.instr.Instr.{Instr}
use Rattle.gen_arena.specs.SameId.{is_same_id}
use Rattle.gen_arena.specs.declared.id.Id.{Id}
use Rattle.gen_arena.proofs.Public.{id_same, id_itself, id_differs, id_cases}
use Rattle.card_core.specs.World.{Loading, code_in}
use Rattle.text_script.specs.ProgramNames.{number_of_program, program_named}
use Rattle.text_script.proofs.Public.{number-push}

-- The ids of these codes in the order in which they were given. The list has the latest first.
abbrev pub names_of : List Loading → List Id
names_of [] = []
names_of (loading ∷ earlier) = names_of earlier ++ loading.id ∷ []

-- The number of the code with this id, counted from the earliest, which is 1. If none has it, the number is 0.
abbrev pub number_in : List Loading → Id → ℕ
number_in [] id = 0
number_in (loading ∷ earlier) id = if is_same_id id loading.id then suc (length earlier) else number_in earlier id

-- No id was given twice.
abbrev pub AreOnce : List Loading → Type 0
AreOnce [] = ⊤
AreOnce (loading ∷ earlier) = (number_in earlier loading.id ≡ 0) × AreOnce earlier

pub length-names : (given : List Loading) → length (names_of given) ≡ length given
length-names [] = refl
length-names (loading ∷ earlier) = omega (arith, length-append (names_of earlier) (loading.id ∷ []), length-names earlier)

-- The number of an id among the names.
pub number-is : (given : List Loading) (id : Id) → number_of_program (names_of given) id ≡ number_in given id
number-is [] id = refl
number-is (loading ∷ earlier) id =
    let many = length-names earlier in
    let rest = number-is earlier id in
    number-push id loading.id (names_of earlier) ∙ (λ i. if is_same_id id loading.id then suc (many i) else rest i)

-- No number is above the number of codes.
pub number-most : (given : List Loading) (id : Id) → number_in given id ≤ length given
number-most [] id = omega arith
number-most (loading ∷ earlier) id =
    let rest = number-most earlier id in
    let choice : (b : Bool) → (if b then suc (length earlier) else number_in earlier id) ≤ suc (length earlier) = elim [
      | true ↦ omega arith
      | false ↦ omega arith
    ] in
    choice (is_same_id id loading.id)

-- A number above 0 belongs to one id only.
pub number-apart : (given : List Loading) (one other : Id) → number_in given one ≡ number_in given other → 0 < number_in given one → one ≡ other
number-apart [] one other same some = absurd (omega (arith, some))
number-apart (loading ∷ earlier) one other same some =
    let least = number-most earlier one in
    let most = number-most earlier other in
    let choice : (b c : Bool) → is_same_id one loading.id ≡ b → is_same_id other loading.id ≡ c
    → (if b then suc (length earlier) else number_in earlier one) ≡ (if c then suc (length earlier) else number_in earlier other)
    → 0 < (if b then suc (length earlier) else number_in earlier one) → one ≡ other = elim [
      | true ↦ elim [
        | true ↦ λ e f same some. id_same one loading.id e ∙ sym (id_same other loading.id f)
        | false ↦ λ e f same some. absurd (omega arith)
      ]
      | false ↦ elim [
        | true ↦ λ e f same some. absurd (omega arith)
        | false ↦ λ e f same some. number-apart earlier one other same some
      ]
    ] in
    choice (is_same_id one loading.id) (is_same_id other loading.id) refl refl same some

-- So two ids, of which the first has a name, are equal exactly if their numbers are.
pub number-gives : (given : List Loading) (one other : Id) → 0 < number_in given one
    → is_same_id one other ≡ (number_in given one == number_in given other)
number-gives given one other some = elim (id_cases one other) [
  | inl same ↦
      subst (λ (id : Id). is_same_id one id ≡ true) same (id_itself one)
      ∙ sym (eq-eqb (number_in given one) (number_in given other) (ap (number_in given) same))
  | inr apart ↦
      id_differs one other apart
      ∙ sym (ne_eqb (number_in given one) (number_in given other) (λ same. apart (number-apart given one other same some)))
]

pub number-gives_back : (given : List Loading) (one other : Id) → 0 < number_in given other
    → is_same_id one other ≡ (number_in given one == number_in given other)
number-gives_back given one other some = elim (id_cases one other) [
  | inl same ↦
      subst (λ (id : Id). is_same_id one id ≡ true) same (id_itself one)
      ∙ sym (eq-eqb (number_in given one) (number_in given other) (ap (number_in given) same))
  | inr apart ↦
      id_differs one other apart
      ∙ sym (ne_eqb (number_in given one) (number_in given other)
      (λ same. apart (sym (number-apart given other one (sym same) some))))
]

-- An id under which a code was loaded has a name.
pub number-some : (given : List Loading) (id : Id) (code : List Instr) → code_in given id ≡ Some code → 0 < number_in given id
number-some [] id code found = absurd (cc)
number-some (loading ∷ earlier) id code found =
    let choice : (b : Bool) → (if b then Some loading.code else code_in earlier id) ≡ Some code
    → 0 < (if b then suc (length earlier) else number_in earlier id) = elim [
      | true ↦ λ found. omega arith
      | false ↦ λ found. number-some earlier id code found
    ] in
    choice (is_same_id id loading.id) found

pub number-none : (given : List Loading) (id : Id) → code_in given id ≡ None → number_in given id ≡ 0
number-none [] id none = refl
number-none (loading ∷ earlier) id none =
    let choice : (b : Bool) → (if b then Some loading.code else code_in earlier id) ≡ None
    → (if b then suc (length earlier) else number_in earlier id) ≡ 0 = elim [
      | true ↦ λ none. absurd (cc)
      | false ↦ λ none. number-none earlier id none
    ] in
    choice (is_same_id id loading.id) none

-- The number of a name remains when one more id is given.
pub number-stays : (loading : Loading) (given : List Loading) (id : Id) → number_in given loading.id ≡ 0 → 0 < number_in given id
    → number_in (loading ∷ given) id ≡ number_in given id
number-stays loading given id new some =
    let apart : id ≢ loading.id = λ same. let e = ap (number_in given) same in omega arith in
    ap (λ b. if b then suc (length given) else number_in given id) (id_differs id loading.id apart)

-- The new id has the next number.
pub number-next : (loading : Loading) (given : List Loading) → number_in (loading ∷ given) loading.id ≡ suc (length given)
number-next loading given = ap (λ b. if b then suc (length given) else number_in given loading.id) (id_itself loading.id)

-- The entry at a place of a list with one more entry at its end.
get-append : (names : List Id) (last id : Id) (place : ℕ) → slice_get (names ++ last ∷ []) place ≡ Some id
    → (slice_get names place ≡ Some id) ⊎ ((place ≡ length names) × (last ≡ id))
get-append [] last id zero found = inr (refl, same_Some last id found)
get-append [] last id (suc place) found = absurd (cc)
get-append (here ∷ later) last id zero found = inl found
get-append (here ∷ later) last id (suc place) found = elim (get-append later last id place found) [
  | inl before ↦ inl before
  | inr reached ↦ inr (ap suc reached.0, reached.1)
]

-- The number of the id at a place of the names is that place plus one.
number-at : (given : List Loading) → AreOnce given → (place : ℕ) (id : Id) → slice_get (names_of given) place ≡ Some id
    → number_in given id ≡ suc place
number-at [] once place id found = absurd (cc)
number-at (loading ∷ earlier) once place id found = elim (get-append (names_of earlier) loading.id id place found) [
  | inl before ↦
      let number = number-at earlier once.1 place id before in
      number-stays loading earlier id once.0 (omega arith) ∙ number
  | inr reached ↦
      let number = number-next loading earlier in
      let many = length-names earlier in
      let here : number_in (loading ∷ earlier) id ≡ suc (length earlier) =
      subst (λ (i : Id). number_in (loading ∷ earlier) i ≡ suc (length earlier)) reached.1 number in
      omega (arith, here, reached.0, many)
]

-- If this many programs were loaded, this is the number of a name.
abbrev pub is_number : ℕ → ℕ → Bool
is_number programs zero = false
is_number programs (suc before) = nat_lt before programs

-- The program that a number names, if it names one.
pub data IsNamed (given : List Loading) (number : ℕ) : Option Id → Type 0 where
  named : (id : Id) → is_number (length given) number ≡ true → number_in given id ≡ number → 0 < number → IsNamed given number (Some id)
  unnamed : is_number (length given) number ≡ false → IsNamed given number None

at-place : (given : List Loading) → AreOnce given → (place : ℕ) (found : Option Id) → slice_get (names_of given) place ≡ found
    → IsNamed given (suc place) found
at-place given once place (Some id) e =
    named id (lt-ltb place (length given) (omega (arith, slice_get_within (names_of given) place id e, length-names given)))
    (number-at given once place id e) (omega arith)
at-place given once place None e =
    unnamed (le-ltb place (length given) (omega (arith, past (names_of given) place e, length-names given)))
  where
    past : (names : List Id) (place : ℕ) → slice_get names place ≡ None → length names ≤ place
    past [] place e = omega arith
    past (here ∷ later) zero e = absurd (cc)
    past (here ∷ later) (suc place) e = let rest = past later place e in omega arith

pub named-number : (given : List Loading) → AreOnce given → (number : ℕ) → IsNamed given number (program_named (names_of given) number)
named-number given once zero = unnamed refl
named-number given once (suc place) = at-place given once place (slice_get (names_of given) place) refl
