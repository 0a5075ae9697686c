-- A line is in the grammar or has a fault, whatever comes before it.
use Rattle.std.proofs.Common.{◌≡◌, ◌⊎◌, ℕ, Bool, true, false, List, Option, Some, None, refl, sym, ◌∙◌, inl, inr}
use Rattle.bpf_asm.specs.Faults.{IsLineFault}
use Rattle.bpf_asm.specs.Grammar.{IsSourceLine, SourceLine}
use Rattle.bpf_asm.specs.SourceLines.{without_comment}
use Rattle.bpf_asm.specs.inner.Reading.{line_in}
use Rattle.bpf_asm.specs.Tokens.{HasBadNumber, has_faulty, tokens_in, tokens_of}
use Rattle.bpf_asm.specs.declared.fault.AsmKind.{AsmKind}
use Rattle.bpf_asm.specs.declared.fault.AsmKind.TheVariants.{BadLine, BadNumber}
use Rattle.bpf_asm.proofs.spellings.LineBack.{line_back, line_true}

-- The line parses or has a fault.
abbrev pub ParsesOrFaulty : List ℕ → Type 0
ParsesOrFaulty octets = ((line : SourceLine) × IsSourceLine octets line) ⊎ ((kind : AsmKind) × ((before : List SourceLine) → IsLineFault before octets kind))

-- Some number is bad.
bad_by : (octets : List ℕ) → has_faulty (tokens_of (without_comment octets)) ≡ true → HasBadNumber octets
unfolding HasBadNumber
bad_by octets h = h

-- No number is bad.
not_bad : (octets : List ℕ) → has_faulty (tokens_of (without_comment octets)) ≡ false → ¬ HasBadNumber octets
unfolding HasBadNumber
not_bad octets h bad = let both : true ≡ false = sym bad ∙ h in cc

-- A line that is read parses as this.
read_is : (octets : List ℕ) (line : SourceLine) → line_in (tokens_in octets) ≡ Some line → IsSourceLine octets line
unfolding IsSourceLine
read_is octets line e = line_true (tokens_in octets) line e

-- A line that isn't read isn't in the grammar.
unread : (octets : List ℕ) (line : SourceLine) → line_in (tokens_in octets) ≡ None → ¬ IsSourceLine octets line
unfolding IsSourceLine
unread octets line none is =
    let read = line_back (tokens_in octets) line.label line.statement is in
    let both : Some line ≡ None = sym read ∙ none in
    cc

-- By both tests.
decided : (octets : List ℕ) (bad : Bool) (read : Option SourceLine) → has_faulty (tokens_of (without_comment octets)) ≡ bad → line_in (tokens_in octets) ≡ read → ParsesOrFaulty octets
decided octets true read h e = inr (BadNumber, λ before. bad_by octets h)
decided octets false None h e = inr (BadLine, λ before. (not_bad octets h, λ line is. unread octets line e is))
decided octets false (Some line) h e = inl (line, read_is octets line e)

-- A line is in the grammar or has a fault.
pub line-or_fault : (octets : List ℕ) → ParsesOrFaulty octets
line-or_fault octets = decided octets (has_faulty (tokens_of (without_comment octets))) (line_in (tokens_in octets)) refl refl
