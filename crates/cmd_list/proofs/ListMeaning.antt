-- The listing of a code with octets means the code.
use Rattle.std.proofs.Common.{◌≡◌, ℕ, suc, ◌+◌, ◌<◌, ◌≤◌, ◌^◌, true, ◌&&◌, List, [], ◌∷◌, ◌++◌, Some, Result, Ok, Err, inl, inr, codes, length, drop, get_or, slice_get, refl, sym, ap, ◌∙◌, subst, arith, append_assoc}
use Rattle.std.proofs.lemmas.Bool.{and_parts}
use Rattle.std.proofs.lemmas.List.{get_or-drop}
use Rattle.bpf_asm.proofs.listings.Apart.{ReadsPart, all_inline, is_apart, no_minus, parts_inline, source_lines-line, texts_inline}
use Rattle.bpf_asm.proofs.listings.ListedRows.{is_good, is_some_row, line_parts, row_good, row_reads}
use Rattle.bpf_asm.proofs.listings.RoundTrip.{listing_means}
use Rattle.bpf_asm.proofs.octets.Decimals.{decimal_word, tokens_of-label}
use Rattle.bpf_asm.specs.Grammar.{AreLineTokens, AreLines, IsSourceLine, SourceLine}
use Rattle.bpf_asm.specs.Listing.{StaysWithin, instruction_text, label_at, line_text, listing_from, listing_of, statement_at}
use Rattle.bpf_asm.specs.Meaning.{IsMeaning}
use Rattle.bpf_asm.specs.SourceLines.{source_lines}
use Rattle.bpf_asm.specs.StatementSpelling.{label, spelling_octets, spelling_tokens, spellings}
use Rattle.bpf_asm.specs.Tokens.{Token}
use Rattle.bpf_code.specs.Encoding.{code_octets}
use Rattle.bpf_code.specs.Flow.{IsInstrAt}
use Rattle.bpf_code.specs.OctetSpelling.{SpellsCode}
use Rattle.bpf_code.specs.Widths.{FitsFields}
use Rattle.bpf_code.specs.declared.instr.Instr.{Instr}
use Rattle.bpf_verify.specs.Accepted.{IsAccepted}
use Rattle.cmd_list.proofs.CommentedLines.{line_commented, longest_commented, tokens_commented}
use Rattle.cmd_list.proofs.LastComment.{blank, comment_blank, lines_mean, with_blank}
use Rattle.hex.proofs.HexLemmas.{decode_of-ok}
use Rattle.hex.specs.Hex.{IsBytes, decode_of}
use Rattle.hex.specs.declared.error.FromHexError.{FromHexError}
use Rattle.std.specs.Result.{result_ok}
use Rattle.text_io.specs.declared.ending.Done.TheVariants.{Whole}
use Rattle.cmd_programs.specs.CodeFaults.{decode_fault}
use Rattle.cmd_programs.specs.Program.{ReadsAs, is_program, is_refused}
use Rattle.cmd_programs.specs.Check.{PrintsSource, accepted_text}
use Rattle.text_words.specs.Hexadecimal.{octets_of_digits}
use Rattle.cmd_list.proofs.Fits.{fits_all}
use Rattle.cmd_list.proofs.Lists.{drop_one}
use Rattle.cmd_list.specs.Comments.{commented, listed_lines}
use Rattle.cmd_list.specs.ListedProgram.{IsProgramListing, longest_line, octet_lines, octets_text, program_listing}
use Rattle.cmd_list.specs.inner.LongestRuns.{one-longest, some-longest}

-- The line of an instruction in a listing.
abbrev listed_at : ℕ → Instr → List ℕ
listed_at place i = spelling_octets (line_parts place i)

-- The lines of these instructions.
listed_from : ℕ → List Instr → List (List ℕ)
listed_from place [] = []
listed_from place (i ∷ code) = listed_at place i ∷ listed_from (place + 1) code

-- Each of these instructions has a line.
abbrev HaveLines : ℕ → List Instr → Type 0
HaveLines place [] = Unit {0}
HaveLines place (i ∷ code) = (all_inline (listed_at place i) ≡ true) × HaveLines (place + 1) code

label_reads : (place : ℕ) → place < 2 ^ 64 → ReadsPart (label (label_at place))
label_reads place h = (tokens_of-label place h, rw (decimal_word place h) refl)

inline_at : (place : ℕ) (i : Instr) → FitsFields i → StaysWithin (2 ^ 64) place i → place < 2 ^ 64 → all_inline (listed_at place i) ≡ true
inline_at place i w s h =
    let parts = line_parts place i in
    let both = and_parts (is_good parts) (is_some_row (spellings (statement_at place i))) (row_good place i) in
    let good = and_parts (is_apart parts) (texts_inline parts && no_minus (spelling_tokens parts)) both.0 in
    let inline = and_parts (texts_inline parts) (no_minus (spelling_tokens parts)) good.1 in
    parts_inline parts inline.0 (row_reads place i w s label_reads (label_reads place h))

have_lines : (place : ℕ) (code : List Instr) → place + length code ≤ 2 ^ 64 → ((k : ℕ) (i : Instr) → slice_get code k ≡ Some i → FitsFields i × StaysWithin (2 ^ 64) (place + k) i) → HaveLines place code
have_lines place [] h all = tt
have_lines place (i ∷ code) h all =
    let zero_more : place + 0 ≡ place = omega arith in
    let first = subst (λ (p : ℕ). FitsFields i × StaysWithin (2 ^ 64) p i) zero_more (all 0 i refl) in (
      inline_at place i first.0 first.1 (omega arith),
      have_lines (place + 1) code (omega arith) (λ k j e.
          let moved : place + suc k ≡ place + 1 + k = omega arith in
          subst (λ (p : ℕ). FitsFields j × StaysWithin (2 ^ 64) p j) moved (all (suc k) j e)),
    )

line_octets : (place : ℕ) (i : Instr) → line_text place i ≡ listed_at place i ++ 10 ∷ []
unfolding line_text instruction_text
line_octets place i = ap (λ (octets : List ℕ). octets ++ 10 ∷ []) (append_assoc (label_at place) (codes ": ") (instruction_text place i))

-- A listing has a line for each instruction.
lines_listed : (place : ℕ) (code : List Instr) → HaveLines place code → source_lines (listing_from place code) ≡ listed_from place code
unfolding source_lines listing_from listed_from
lines_listed place [] h = refl
lines_listed place (i ∷ code) h =
    let octets = listed_at place i in
    let cut : line_text place i ++ listing_from (place + 1) code ≡ octets ++ 10 ∷ listing_from (place + 1) code =
    ap (λ (ts : List ℕ). ts ++ listing_from (place + 1) code) (line_octets place i) ∙ append_assoc octets (10 ∷ []) (listing_from (place + 1) code) in
    ap source_lines cut ∙ source_lines-line octets (listing_from (place + 1) code) h.0 ∙ ap (λ (ls : List (List ℕ)). octets ∷ ls) (lines_listed (place + 1) code h.1)

-- A line parses alike with a comment.
source_line : (listed comment : List ℕ) (line : SourceLine) → all_inline listed ≡ true → IsSourceLine listed line → IsSourceLine (listed ++ (codes " ; " ++ comment)) line
unfolding IsSourceLine
source_line listed comment line h spelled = subst (λ (tokens : List Token). AreLineTokens tokens line) (sym (tokens_commented listed comment h)) spelled

module _ (rest : List ℕ) (last : List SourceLine) (parsed_last : AreLines (source_lines rest) last) where
  -- The same lines with octets, before others, parse as the lines without them.
  commented_spelled : (listed : List (List ℕ)) (place : ℕ) (code : List Instr) (lines : List SourceLine) → HaveLines place code → listed_from place code ≡ drop place listed
      → AreLines (listed_from place code) lines → AreLines (source_lines (octet_lines listed place code ++ rest)) (lines ++ last)
  unfolding source_lines listed_from octet_lines
  commented_spelled listed place [] lines h left spelled = subst (λ (ls : List SourceLine). AreLines (source_lines rest) (ls ++ last)) (sym spelled) parsed_last
  commented_spelled listed place (i ∷ code) [] h left spelled = absurd spelled
  commented_spelled listed place (i ∷ code) (line ∷ lines) h left spelled =
      let octets = code_octets (i ∷ []) in
      let more = octet_lines listed (place + 1) code in
      let zero_more : place + 0 ≡ place = omega arith in
      let found : listed_at place i ≡ get_or listed place [] =
      ap (λ (ls : List (List ℕ)). get_or ls 0 []) left ∙ get_or-drop place listed 0 [] ∙ ap (λ (n : ℕ). get_or listed n []) zero_more in
      let later = commented_spelled listed (place + 1) code lines h.1 (drop_one place listed (listed_at place i ∷ listed_from (place + 1) code) left) spelled.1 in
      let parsed = source_line (listed_at place i) (octets_text i) line h.0 spelled.0 in
      let P : List ℕ → Type 0 = λ first. AreLines (source_lines (commented first (octets_text i) ++ (more ++ rest))) (line ∷ (lines ++ last)) in
      let Q : List (List ℕ) → Type 0 = λ ls. AreLines ls (line ∷ (lines ++ last)) in
      let whole = subst P found (subst Q (sym (line_commented (listed_at place i) octets (more ++ rest) h.0)) (parsed, later)) in
      subst (λ (text : List ℕ). AreLines (source_lines text) (line ∷ (lines ++ last))) (sym (append_assoc (commented (get_or listed place []) (octets_text i)) more rest)) whole

-- If each instruction of a code fits its fields and stays within the code, the listing with octets means the code.
pub commented_means : (code : List Instr) (most : ℕ) → most < 2 ^ 32 → length code ≤ 2 ^ 64 → ((place : ℕ) (i : Instr) → IsInstrAt code place i → FitsFields i)
    → ((place : ℕ) (i : Instr) → IsInstrAt code place i → StaysWithin (length code) place i) → IsMeaning (program_listing code ++ longest_line most) code
commented_means code most small h wide stays =
    let means = listing_means code h wide stays in
    let have = have_lines 0 code (omega arith) (λ k i e.
    let z : k ≡ 0 + k = omega arith in
    (wide k i e, subst (λ (p : ℕ). StaysWithin (2 ^ 64) p i) z (λ target j. let t : target < length code = stays k i e target j in omega arith))) in
    let lines : source_lines (listing_of code) ≡ listed_from 0 code = lines_listed 0 code have in
    let parsed_last = subst (λ (ls : List (List ℕ)). AreLines ls (blank ∷ [])) (sym (longest_commented most small)) (comment_blank _, refl) in
    record {
      lines = with_blank means.lines;
      spelled = commented_spelled (longest_line most) (blank ∷ []) parsed_last (listed_lines code) 0 code means.lines have (sym lines)
          (subst (λ (ls : List (List ℕ)). AreLines ls means.lines) lines means.spelled);
      mean = lines_mean means.lines code means.mean;
    }

-- The listing of an accepted code with octets means the code.
pub accepted_means : (code : List Instr) (text : List ℕ) → IsAccepted code → ((place : ℕ) (i : Instr) → IsInstrAt code place i → FitsFields i) → IsProgramListing code text → IsMeaning text code
accepted_means code text accepted wide listed =
    let sized = accepted.sized.most in
    let some = some-longest code accepted in
    let same = one-longest code listed.0 some.0 listed.1 some.1 in
    let within = some.2 in
    let means = commented_means code listed.0 (omega arith) (omega arith) wide (λ place i instr_there. (accepted.sound place i instr_there).targets) in
    subst (λ (source : List ℕ). IsMeaning source code) (sym listed.2) means

ok-part : (d : Result (List ℕ) FromHexError) (xs : List ℕ) → result_ok d ≡ Some xs → d ≡ Ok xs
ok-part (Ok ys) xs e = let same : ys ≡ xs = cc in ap Ok same
ok-part (Err fault) xs e = cc

-- The octets of a word of digits are octets.
digits-bytes : (word octets : List ℕ) → octets_of_digits word ≡ Some octets → IsBytes octets
digits-bytes word octets e = (decode_of-ok word octets (ok-part (decode_of word) octets e)).3

-- A program that octets are read as is accepted, and they spell it.
read-program : (octets : List ℕ) (code : List Instr) → ReadsAs octets (is_program code) → SpellsCode octets code × IsAccepted code
read-program octets code reads =
    elim reads [
      | inl spelled ↦
          let P : List Instr → Type 0 = λ some. SpellsCode octets some × IsAccepted some in
          subst P (sym spelled.2.1) (spelled.1, spelled.2.0)
      | inr faulty ↦ let no : is_program code ≡ is_refused (decode_fault faulty.0) = faulty.3 in absurd cc
    ]

-- The listing of the program of a line, with octets, means the program.
pub listing-means : (word octets : List ℕ) (code : List Instr) (text : List ℕ) → octets_of_digits word ≡ Some octets → ReadsAs octets (is_program code) → IsProgramListing code text
    → IsMeaning text code
listing-means word octets code text e reads listed =
    let read = read-program octets code reads in
    accepted_means code text read.1 (fits_all octets code (digits-bytes word octets e) read.0) listed

-- So `upc check` answers it with the program.
pub listing-checks : (word octets : List ℕ) (code : List Instr) (text : List ℕ) → octets_of_digits word ≡ Some octets → ReadsAs octets (is_program code) → IsProgramListing code text
    → PrintsSource text (accepted_text code) Whole
listing-checks word octets code text e reads listed =
    let read = read-program octets code reads in
    inl (code, listing-means word octets code text e reads listed, (is_program code, (read.1, refl), (refl, refl)))
