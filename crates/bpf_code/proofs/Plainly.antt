-- Octets with 0 in unused fields, instruction by instruction.
use Rattle.std.proofs.Common.{◌≡◌, ℕ, ◌+◌, ◌<◌, List, [], ◌∷◌, ◌++◌, length, take, drop, get_or, ap, sym, ◌∙◌, subst}
use Rattle.std.proofs.lemmas.List.{take-append-le, drop-append-le, take_more}
use Rattle.std.proofs.Math.Seq.{take-length, drop-length}
use Rattle.std.proofs.lemmas.Grind.{flat_map-append}
use Rattle.std.proofs.lemmas.List.{append-nil}
use Rattle.bpf_code.specs.Encoding.{code_octets, octets_of_instr}
use Rattle.bpf_code.specs.OctetSpelling.{Spells, SpellsCode, SpellsPlainly, UnusedAreZero}
use Rattle.bpf_code.specs.declared.instr.Instr.{Instr}
use Rattle.bpf_code.proofs.Spelled.{Spells-length, SpellsCode-unique}

pub plainly-spells : (octets : List ℕ) (code : List Instr) → SpellsPlainly octets code → SpellsCode octets code
plainly-spells octets [] s = s
plainly-spells octets (i ∷ code) s = (s.0, plainly-spells (drop 8 octets) code s.2)

pub plainly-no_other : (octets : List ℕ) (code other : List Instr) → SpellsPlainly octets code → SpellsCode octets other → other ≡ code
plainly-no_other octets code other s t = SpellsCode-unique octets other code t (plainly-spells octets code s)

-- Appends one instruction.
pub plainly-more : (octets eight : List ℕ) (code : List Instr) (i : Instr) → SpellsPlainly octets code → Spells eight i → UnusedAreZero eight i
    → SpellsPlainly (octets ++ eight) (code ++ i ∷ [])
plainly-more octets eight [] i s spells unused =
    let all : take 8 (octets ++ eight) ≡ eight =
    ap (λ xs. take 8 (xs ++ eight)) s ∙ ap (λ n. take n eight) (sym spells.eight) ∙ take-length eight in
    let none : drop 8 (octets ++ eight) ≡ [] =
    ap (λ xs. drop 8 (xs ++ eight)) s ∙ ap (λ n. drop n eight) (sym spells.eight) ∙ drop-length eight in
    let P : List ℕ → Type 0 = λ xs. Spells xs i in
    let Q : List ℕ → Type 0 = λ xs. UnusedAreZero xs i in
    (subst P (sym all) spells, subst Q (sym all) unused, none)
plainly-more octets eight (j ∷ code) i s spells unused =
    let here = Spells-length octets j s.0 in
    let front = take-append-le 8 octets eight here in
    let after = drop-append-le 8 octets eight here in
    let P : List ℕ → Type 0 = λ xs. Spells xs j in
    let Q : List ℕ → Type 0 = λ xs. UnusedAreZero xs j in
    let R : List ℕ → Type 0 = λ xs. SpellsPlainly xs (code ++ i ∷ []) in
    (subst P (sym front) s.0, subst Q (sym front) s.1, subst R (sym after) (plainly-more (drop 8 octets) eight code i s.2 spells unused))

-- The same in terms of the loop's place.
pub plainly-step : (octets octets' eight : List ℕ) (code : List Instr) (k : ℕ) (d : Instr) → k < length code → SpellsPlainly octets (take k code)
    → octets' ≡ octets ++ eight → Spells eight (get_or code k d) → UnusedAreZero eight (get_or code k d) → SpellsPlainly octets' (take (k + 1) code)
plainly-step octets octets' eight code k d within s is spells unused =
    let P : List Instr → Type 0 = λ c. SpellsPlainly octets' c in
    let Q : List ℕ → Type 0 = λ xs. SpellsPlainly xs (take k code ++ get_or code k d ∷ []) in
    subst P (sym (take_more code k d within)) (subst Q (sym is) (plainly-more octets eight (take k code) (get_or code k d) s spells unused))

-- The octets so far, for the loop's place.
pub octets-step : (octets octets' eight : List ℕ) (code : List Instr) (k : ℕ) (d : Instr) → k < length code → octets ≡ code_octets (take k code)
    → octets' ≡ octets ++ eight → eight ≡ octets_of_instr (get_or code k d) → octets' ≡ code_octets (take (k + 1) code)
octets-step octets octets' eight code k d within so_far is here =
    let i = get_or code k d in
    is ∙ ap (λ xs. xs ++ eight) so_far
    ∙ ap (λ xs. code_octets (take k code) ++ xs) (here ∙ sym (append-nil (octets_of_instr i)))
    ∙ sym (flat_map-append octets_of_instr (take k code) (i ∷ []))
    ∙ ap code_octets (sym (take_more code k d within))
