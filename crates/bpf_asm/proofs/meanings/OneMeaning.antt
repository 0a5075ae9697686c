-- A source means at most one code.
use Rattle.std.proofs.Common.{◌≡◌, ℕ, ◌+◌, List, [], ◌∷◌, length, take, Option, Some, None, refl, sym, ap, ◌∙◌, subst, arith}
use Rattle.std.proofs.lemmas.List.{take_at}
use Rattle.bpf_asm.specs.Grammar.{AreLines, IsSourceLine, SourceLine}
use Rattle.bpf_asm.specs.Labels.{EachLabelOnce, HasLabel, IsOffset, Operand, NamesPlace, statements_of}
use Rattle.bpf_asm.specs.SourceLines.{source_lines}
use Rattle.bpf_asm.specs.Meaning.{IsMeaning, IsSide, MeanFrom, Means}
use Rattle.bpf_asm.specs.StatementSpelling.{Statement, plain, jump, branch}
use Rattle.bpf_asm.specs.Tokens.{tokens_in}
use Rattle.bpf_asm.proofs.spellings.LineBack.{line_back}
use Rattle.bpf_asm.proofs.drafts.Agreement.{holds_label}
use Rattle.bpf_code.specs.declared.instr.Instr.{Instr}
use Rattle.bpf_code.specs.declared.instr.Instr.TheVariants.{Jump, Branch}

same_line : (one other : SourceLine) → Some one ≡ Some other → one ≡ other
same_line one other e = cc

-- A line parses in at most one way.
pub line_once : (octets : List ℕ) (one other : SourceLine) → IsSourceLine octets one → IsSourceLine octets other → one ≡ other
unfolding IsSourceLine
line_once octets one other a b =
    same_line one other (sym (line_back (tokens_in octets) one.label one.statement a) ∙ line_back (tokens_in octets) other.label other.statement b)

-- Lines parse in at most one way.
pub lines_once : (octets : List (List ℕ)) (some other : List SourceLine) → AreLines octets some → AreLines octets other → some ≡ other
lines_once [] some other a b = a ∙ sym b
lines_once (here ∷ octets) [] other a b = absurd a
lines_once (here ∷ octets) (one ∷ some) [] a b = absurd b
lines_once (here ∷ octets) (one ∷ some) (two ∷ other) a b =
    ap (λ (line : SourceLine). line ∷ some) (line_once here one two a.0 b.0) ∙ ap (λ (lines : List SourceLine). two ∷ lines) (lines_once octets some other a.1 b.1)

-- The place that a label names, from the number of its line.
holds_place : (lines : List SourceLine) (name : List ℕ) (place : ℕ) → NamesPlace lines name place → (at : ℕ) × HasLabel lines at name × (place ≡ length (statements_of (take at lines)))
holds_place lines name place s =
    let front : take (length s.before) lines ≡ s.before = ap (λ (ls : List SourceLine). take (length s.before) ls) s.split ∙ take_at s.before (s.here ∷ s.after) (length s.before) refl in (
      length s.before,
      subst (λ (ls : List SourceLine). HasLabel ls (length s.before) name) (sym s.split) (holds_label s.before s.here s.after name s.named),
      s.counted ∙ ap (λ (ls : List SourceLine). length (statements_of ls)) (sym front),
    )

-- A label that occurs once names one place.
pub holds_once : (lines : List SourceLine) (name : List ℕ) (one other : ℕ) → EachLabelOnce lines → NamesPlace lines name one → NamesPlace lines name other → one ≡ other
holds_once lines name one other once a b =
    let first = holds_place lines name one a in
    let second = holds_place lines name other b in
    let same : first.0 ≡ second.0 = once first.0 second.0 name first.1 second.1 in
    first.2 ∙ ap (λ (at : ℕ). length (statements_of (take at lines))) same ∙ sym second.2

offset_once : (lines : List SourceLine) (place : ℕ) (operand : Operand) (one other : ℕ) → EachLabelOnce lines → IsOffset lines place operand one → IsOffset lines place operand other → one ≡ other
offset_once lines place operand one other once a b =
    let same : place + 1 + one ≡ place + 1 + other = holds_once lines operand.label (place + 1 + one) (place + 1 + other) once a.holds b.holds in
    omega arith

side_once : (lines : List SourceLine) (place : ℕ) (label : Option (List ℕ)) (one other : ℕ) → EachLabelOnce lines → IsSide lines place label one → IsSide lines place label other → one ≡ other
side_once lines place None one other once a b = a ∙ sym b
side_once lines place (Some target) one other once a b = offset_once lines place (record { label = target; most = 255 }) one other once a b

means_once : (lines : List SourceLine) (place : ℕ) (s : Statement) (one other : Instr) → EachLabelOnce lines → Means lines place s one → Means lines place s other → one ≡ other
means_once lines place (plain i) one other once a b = a ∙ sym b
means_once lines place (jump target) one other once a b =
    a.1 ∙ ap (λ (k : ℕ). Jump k) (offset_once lines place (record { label = target; most = 4294967295 }) a.0 b.0 once a.2 b.2) ∙ sym b.1
means_once lines place (branch test by met unmet) one other once a b =
    a.2 ∙ ap (λ (k : ℕ). Branch test by k a.1) (side_once lines place met a.0 b.0 once a.3 b.3) ∙ ap (λ (k : ℕ). Branch test by b.0 k) (side_once lines place unmet a.1 b.1 once a.4 b.4) ∙ sym b.2

mean_once : (lines : List SourceLine) (place : ℕ) (ss : List Statement) (one other : List Instr) → EachLabelOnce lines → MeanFrom lines place ss one → MeanFrom lines place ss other → one ≡ other
mean_once lines place [] one other once a b = a ∙ sym b
mean_once lines place (s ∷ ss) [] other once a b = absurd a
mean_once lines place (s ∷ ss) (i ∷ one) [] once a b = absurd b
mean_once lines place (s ∷ ss) (i ∷ one) (j ∷ other) once a b =
    ap (λ (k : Instr). k ∷ one) (means_once lines place s i j once a.0 b.0) ∙ ap (λ (code : List Instr). j ∷ code) (mean_once lines (place + 1) ss one other once a.1 b.1)

-- A source means at most one code.
pub meaning_once : (source : List ℕ) (one other : List Instr) → IsMeaning source one → IsMeaning source other → one ≡ other
meaning_once source one other a b =
    let same = lines_once (source_lines source) b.lines a.lines b.spelled a.spelled in
    let meant = subst (λ (lines : List SourceLine). MeanFrom lines 0 (statements_of lines) other) same b.mean.meant in
    mean_once a.lines 0 (statements_of a.lines) one other a.mean.once a.mean.meant meant
