-- A line, octet by octet or token by token.
use Rattle.std.proofs.Common.{◌≡◌, ℕ, Bool, true, false, List, [], ◌∷◌, Some, None, refl, sym, ap, ◌∙◌}
use Rattle.bpf_asm.specs.Faults.{IsLineFault}
use Rattle.bpf_asm.specs.Grammar.{IsSourceLine, SourceLine}
use Rattle.bpf_asm.specs.inner.LineTokens.{line_tokens}
use Rattle.bpf_asm.specs.inner.Reading.{line_in}
use Rattle.bpf_asm.specs.inner.Seen.{token_seen}
use Rattle.bpf_asm.specs.Tokens.{HasBadNumber, has_faulty, tokens_in}
use Rattle.bpf_asm.specs.declared.fault.AsmKind.TheVariants.{BadLine, BadNumber}
use Rattle.bpf_asm.specs.declared.token.LentToken.{LentToken}
use Rattle.bpf_asm.specs.declared.token.LentToken.TheVariants.{Name, Number, Faulty, Mark}
use Rattle.bpf_asm.proofs.spellings.LineBack.{line_back, line_true}

-- A token that is a number, a name or another octet.
pub faulty_more : (text rest : List ℕ) (token : LentToken) (whole : Bool) → (token ≡ Faulty → ⊥) → line_tokens text ≡ token_seen token ∷ line_tokens rest → has_faulty (line_tokens text) ≡ whole → has_faulty (line_tokens rest) ≡ whole
faulty_more text rest (Name octets) whole n e h = sym (ap has_faulty e) ∙ h
faulty_more text rest (Number value) whole n e h = sym (ap has_faulty e) ∙ h
faulty_more text rest Faulty whole n e h = absurd (n refl)
faulty_more text rest (Mark octet) whole n e h = sym (ap has_faulty e) ∙ h

-- A faulty token.
pub faulty_found : (text rest : List ℕ) (token : LentToken) (whole : Bool) → token ≡ Faulty → line_tokens text ≡ token_seen token ∷ line_tokens rest → has_faulty (line_tokens text) ≡ whole → true ≡ whole
faulty_found text rest token whole m e h =
    sym (ap has_faulty e ∙ ap (λ (t : LentToken). has_faulty (token_seen t ∷ line_tokens rest)) m) ∙ h

-- No token.
pub faulty_none : (text : List ℕ) (whole : Bool) → line_tokens text ≡ [] → has_faulty (line_tokens text) ≡ whole → false ≡ whole
faulty_none text whole e h = sym (ap has_faulty e) ∙ h

-- A line with a bad number.
pub bad_number_is : (line : List ℕ) (before : List SourceLine) → has_faulty (line_tokens line) ≡ true → IsLineFault before line BadNumber
unfolding HasBadNumber
bad_number_is line before h = h

-- The line that was read is the line of the grammar.
pub spelled_line : (line : List ℕ) (spelled : SourceLine) → line_in (tokens_in line) ≡ Some spelled → IsSourceLine line spelled
unfolding IsSourceLine
spelled_line line spelled read = line_true (tokens_in line) spelled read

-- A line that couldn't be read isn't in the grammar.
pub bad_line_is : (line : List ℕ) (before : List SourceLine) → has_faulty (line_tokens line) ≡ false → line_in (tokens_in line) ≡ None → IsLineFault before line BadLine
unfolding IsSourceLine HasBadNumber
bad_line_is line before h none = (
  λ bad. let both : true ≡ false = sym bad ∙ h in cc,
  λ l is. let read = line_back (tokens_in line) l.label l.statement is in cc,
)
