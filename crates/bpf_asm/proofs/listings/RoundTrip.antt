-- A listing means the code that it lists.
use Rattle.std.proofs.Common.{◌≡◌, ℕ, zero, suc, ◌+◌, ◌<◌, ◌≤◌, ◌^◌, true, ◌&&◌, List, [], ◌∷◌, ◌++◌, length, drop, Some, slice_get, codes, decimal, refl, sym, ap, ◌∙◌, subst, inl, inr, arith, append_assoc}
use Rattle.std.proofs.lemmas.Bool.{and_parts}
use Rattle.std.proofs.lemmas.Fmt.{decimal_injective}
use Rattle.bpf_asm.specs.Grammar.{SourceLine, AreLines, IsSourceLine, IsOneOf}
use Rattle.bpf_asm.specs.Labels.{EachLabelOnce, NamesPlace, statements_of}
use Rattle.bpf_asm.specs.SourceLines.{source_lines, without_comment}
use Rattle.bpf_asm.specs.Listing.{StaysWithin, first_spelling, instruction_text, label_at, line_text, listing_from, listing_of, statement_at}
use Rattle.bpf_asm.specs.Meaning.{IsMeaning, MeanFrom, Means}
use Rattle.bpf_asm.specs.StatementSpelling.{Part, label, spelling_octets, spelling_tokens, spellings}
use Rattle.bpf_asm.specs.Tokens.{Token, name, mark, signed, tokens_in, tokens_of, tokens_read, pieces_of}
use Rattle.bpf_code.specs.Widths.{FitsFields}
use Rattle.bpf_asm.proofs.listings.Apart.{ReadsPart, all_inline, inline_whole, is_apart, source_lines-line, no_minus, parts_inline, parts_read, signed_same, texts_inline}
use Rattle.bpf_asm.proofs.octets.Decimals.{decimal_word, tokens_of-label}
use Rattle.bpf_asm.proofs.listings.ListedRows.{is_good, is_some_row, line_parts, row_good, row_reads}
use Rattle.bpf_asm.proofs.listings.Places.{AllPlaces}
use Rattle.bpf_code.specs.declared.instr.Instr.{Instr}
use Rattle.bpf_code.specs.declared.instr.Instr.TheVariants.{LoadAbs, LoadInd, LoadImm, LoadMem, LoadLen, LdxImm, LdxMem, LdxLen, LdxMsh, Store, StoreX, Alu, Neg, Jump, Branch, RetK, RetA, Tax, Txa}

-- The line of a listing.
abbrev line_at : ℕ → Instr → SourceLine
line_at place i = record { label = Some (label_at place); statement = Some (statement_at place i) }

-- The lines of a listing, from this place on.
lines_in : ℕ → List Instr → List SourceLine
lines_in place [] = []
lines_in place (i ∷ code) = line_at place i ∷ lines_in (place + 1) code

-- The instructions from this place on can be listed, in a code of this many.
abbrev IsListable : ℕ → ℕ → List Instr → Type 0
IsListable count place [] = Unit {0}
IsListable count place (i ∷ code) = (FitsFields i × StaysWithin count place i) × IsListable count (place + 1) code

listable_from : (count place : ℕ) (code : List Instr) → ((k : ℕ) (i : Instr) → slice_get code k ≡ Some i → FitsFields i × StaysWithin count (place + k) i) → IsListable count place code
listable_from count place [] h = tt
listable_from count place (i ∷ code) h =
    let zero_more : place + 0 ≡ place = omega arith in
    let first = subst (λ (p : ℕ). FitsFields i × StaysWithin count p i) zero_more (h 0 i refl) in (
      first,
      listable_from count (place + 1) code (λ k j e.
          let moved : place + suc k ≡ place + 1 + k = omega arith in
          subst (λ (p : ℕ). FitsFields j × StaysWithin count p j) moved (h (suc k) j e)),
    )

label_reads : (place : ℕ) → place < 2 ^ 64 → ReadsPart (label (label_at place))
label_reads place h = (tokens_of-label place h, rw (decimal_word place h) refl)

line_octets : (place : ℕ) (i : Instr) → line_text place i ≡ spelling_octets (line_parts place i) ++ 10 ∷ []
unfolding line_text instruction_text
line_octets place i = ap (λ (octets : List ℕ). octets ++ 10 ∷ []) (append_assoc (label_at place) (codes ": ") (instruction_text place i))

row_first : (rows : List (List Part)) → is_some_row rows ≡ true → IsOneOf (spelling_tokens (first_spelling rows)) rows
row_first [] h = cc
row_first (row ∷ rows) h = inl refl

colon_token : tokens_of (codes ": ") ≡ mark 58 ∷ []
unfolding tokens_of pieces_of
colon_token = refl

-- One line parses as the line of the listing.
line_spelled : (place : ℕ) (i : Instr) → FitsFields i → StaysWithin (2 ^ 64) place i → place < 2 ^ 64 → (all_inline (spelling_octets (line_parts place i)) ≡ true) × IsSourceLine (spelling_octets (line_parts place i)) (line_at place i)
unfolding IsSourceLine tokens_in tokens_read
line_spelled place i w s h =
    let parts = line_parts place i in
    let row = first_spelling (spellings (statement_at place i)) in
    let both = and_parts (is_good parts) (is_some_row (spellings (statement_at place i))) (row_good place i) in
    let good = and_parts (is_apart parts) (texts_inline parts && no_minus (spelling_tokens parts)) both.0 in
    let plain_parts = and_parts (texts_inline parts) (no_minus (spelling_tokens parts)) good.1 in
    let reads = row_reads place i w s label_reads (label_reads place h) in
    let inline = parts_inline parts plain_parts.0 reads in
    let whole : tokens_of (without_comment (spelling_octets parts)) ≡ spelling_tokens parts = ap tokens_of (inline_whole (spelling_octets parts) inline) ∙ parts_read parts good.0 reads in
    let tokens : signed (tokens_of (without_comment (spelling_octets parts))) ≡ spelling_tokens parts = ap signed whole ∙ signed_same (spelling_tokens parts) plain_parts.1 in
    let after : spelling_tokens parts ≡ name (label_at place) ∷ mark 58 ∷ spelling_tokens row = ap (λ (ts : List Token). name (label_at place) ∷ (ts ++ spelling_tokens row)) colon_token in
    (inline, (spelling_tokens row, tokens ∙ after, row_first (spellings (statement_at place i)) both.1))

-- The lines of a listing parse as these.
lines_spelled : (place : ℕ) (code : List Instr) → IsListable (2 ^ 64) place code → place + length code ≤ 2 ^ 64 → AreLines (source_lines (listing_from place code)) (lines_in place code)
unfolding lines_in source_lines listing_from
lines_spelled place [] l h = refl
lines_spelled place (i ∷ code) l h =
    let here = line_spelled place i l.0.0 l.0.1 (omega arith) in
    let octets = spelling_octets (line_parts place i) in
    let later = lines_spelled (place + 1) code l.1 (omega arith) in
    let cut : line_text place i ++ listing_from (place + 1) code ≡ octets ++ 10 ∷ listing_from (place + 1) code =
    ap (λ (ts : List ℕ). ts ++ listing_from (place + 1) code) (line_octets place i) ∙ append_assoc octets (10 ∷ []) (listing_from (place + 1) code) in
    let split : source_lines (line_text place i ++ listing_from (place + 1) code) ≡ octets ∷ source_lines (listing_from (place + 1) code) =
    ap source_lines cut ∙ source_lines-line octets (listing_from (place + 1) code) here.0 in
    subst (λ (ls : List (List ℕ)). AreLines ls (line_at place i ∷ lines_in (place + 1) code)) (sym split) (here.1, later)

-- Each line has its place's label.
line_label : (place : ℕ) (code : List Instr) (at : ℕ) (line : SourceLine) → slice_get (lines_in place code) at ≡ Some line → (at < length code) × (line.label ≡ Some (label_at (place + at)))
unfolding lines_in
line_label place [] at line e = cc
line_label place (i ∷ code) zero line e =
    let same : line ≡ line_at place i = cc in
    let here : place + 0 ≡ place = omega arith in
    (omega arith, ap (λ (l : SourceLine). l.label) same ∙ ap (λ (p : ℕ). Some (label_at p)) (sym here))
line_label place (i ∷ code) (suc at) line e =
    let later = line_label (place + 1) code at line e in
    let moved : place + 1 + at ≡ place + suc at = omega arith in
    (omega (arith, later.0), later.1 ∙ ap (λ (p : ℕ). Some (label_at p)) moved)

some_injective : (x y : List ℕ) → Some x ≡ Some y → x ≡ y
some_injective x y e = cc

label_injective : (x y : ℕ) → x < 2 ^ 64 → y < 2 ^ 64 → label_at x ≡ label_at y → x ≡ y
label_injective x y h g e = let same : decimal x ≡ decimal y = cc in decimal_injective x y h g same

labels_once : (code : List Instr) → length code ≤ 2 ^ 64 → EachLabelOnce (lines_in 0 code)
labels_once code h one other l a b =
    let first = line_label 0 code one a.0 a.1 in
    let second = line_label 0 code other b.0 b.1 in
    let same : label_at (0 + one) ≡ label_at (0 + other) = some_injective _ _ (sym first.1 ∙ a.2 ∙ sym b.2 ∙ second.1) in
    let places = label_injective (0 + one) (0 + other) (omega (arith, first.0)) (omega (arith, second.0)) same in
    omega arith

some_statement : (place : ℕ) (code : List Instr) (at : ℕ) → at < length code → statements_of (drop at (lines_in place code)) ≡ [] → ⊥
unfolding lines_in statements_of
some_statement place [] at h e = omega arith
some_statement place (i ∷ code) zero h e = cc
some_statement place (i ∷ code) (suc at) h e = some_statement (place + 1) code at (omega arith) e

-- Each label names its place.
label_holds : (place : ℕ) (code : List Instr) (at : ℕ) → at < length code → NamesPlace (lines_in place code) (label_at (place + at)) at
unfolding lines_in statements_of
label_holds place [] at h = absurd (omega arith)
label_holds place (i ∷ code) zero h =
    let here : place ≡ place + 0 = omega arith in
    record { before = []; here = line_at place i; after = lines_in (place + 1) code; split = refl; named = ap (λ (p : ℕ). Some (label_at p)) here; counted = refl }
label_holds place (i ∷ code) (suc at) h =
    let later = label_holds (place + 1) code at (omega arith) in
    let moved : place + 1 + at ≡ place + suc at = omega arith in
    record {
      before = line_at place i ∷ later.before;
      here = later.here;
      after = later.after;
      split = ap (λ (ls : List SourceLine). line_at place i ∷ ls) later.split;
      named = later.named ∙ ap (λ (p : ℕ). Some (label_at p)) moved;
      counted = ap suc later.counted;
    }

holds_at : (whole : List Instr) (target : ℕ) → target < length whole → NamesPlace (lines_in 0 whole) (label_at target) target
holds_at whole target h = let z : 0 + target ≡ target = omega arith in subst (λ (p : ℕ). NamesPlace (lines_in 0 whole) (label_at p) target) z (label_holds 0 whole target h)

-- Each statement means the instruction.
means_here : (whole : List Instr) (place : ℕ) (i : Instr) → FitsFields i × StaysWithin (length whole) place i → Means (lines_in 0 whole) place (statement_at place i) i
means_here whole place (Jump k) l =
    let small : k < 2 ^ 32 = l.0.k in
    (k, refl, record { holds = holds_at whole (place + 1 + k) (l.1 (place + 1 + k) refl); fits = omega arith })
means_here whole place (Branch test by jt jf) l =
    let small : jt < 2 ^ 8 = l.0.jt in
    let little : jf < 2 ^ 8 = l.0.jf in (
      jt,
      jf,
      refl,
      record { holds = holds_at whole (place + 1 + jt) (l.1 (place + 1 + jt) (inl refl)); fits = omega arith },
      record { holds = holds_at whole (place + 1 + jf) (l.1 (place + 1 + jf) (inr refl)); fits = omega arith },
    )
means_here whole place (LoadAbs size k) l = refl
means_here whole place (LoadInd size k) l = refl
means_here whole place (LoadImm k) l = refl
means_here whole place (LoadMem k) l = refl
means_here whole place LoadLen l = refl
means_here whole place (LdxImm k) l = refl
means_here whole place (LdxMem k) l = refl
means_here whole place LdxLen l = refl
means_here whole place (LdxMsh k) l = refl
means_here whole place (Store k) l = refl
means_here whole place (StoreX k) l = refl
means_here whole place (Alu op by) l = refl
means_here whole place Neg l = refl
means_here whole place (RetK k) l = refl
means_here whole place RetA l = refl
means_here whole place Tax l = refl
means_here whole place Txa l = refl

lines_mean : (whole : List Instr) (place : ℕ) (code : List Instr) → IsListable (length whole) place code → MeanFrom (lines_in 0 whole) place (statements_of (lines_in place code)) code
unfolding lines_in statements_of
lines_mean whole place [] l = refl
lines_mean whole place (i ∷ code) l = (means_here whole place i l.0, lines_mean whole (place + 1) code l.1)

listable_more : (count more place : ℕ) (code : List Instr) → count ≤ more → IsListable count place code → IsListable more place code
listable_more count more place [] h l = tt
listable_more count more place (i ∷ code) h l =
    ((l.0.0, λ target j. let t : target < count = l.0.1 target j in omega arith), listable_more count more (place + 1) code h l.1)

-- A listing means its code.
pub listing_means : (code : List Instr) → length code ≤ 2 ^ 64 → AllPlaces (λ place i. FitsFields i) code → AllPlaces (StaysWithin (length code)) code → IsMeaning (listing_of code) code
listing_means code h wide stays =
    let l = listable_from (length code) 0 code (λ k i e. let z : k ≡ 0 + k = omega arith in (wide k i e, subst (λ (p : ℕ). StaysWithin (length code) p i) z (stays k i e))) in
    record {
      lines = lines_in 0 code;
      spelled = lines_spelled 0 code (listable_more (length code) (2 ^ 64) 0 code h l) (omega arith);
      mean = record {
        once = labels_once code h;
        followed = λ at d. some_statement 0 code at (line_label 0 code at d.1.0 d.1.1).0 d.2;
        meant = lines_mean code 0 code l;
      };
    }
