-- A piece's counts at its end are those at its start plus those of its entries.
use Rattle.std.proofs.Common.{◌≡◌, ℕ, ◌-◌, map, ap, sym, ◌∙◌, arith}
use Rattle.line_record.proofs.Public.{entries_count}
use Rattle.line_record.specs.Piece.{IsPiece, PieceView}
use Rattle.line_record.specs.Tally.{plus, tally_of}
use Rattle.line_record.specs.declared.state.State.{State}
use Rattle.line_record.specs.declared.tally.Tally.{Tally}

-- The counts of a piece's entries.
abbrev pub tally_in : PieceView → Tally
tally_in piece = tally_of (map (λ entry. entry.verdict) piece.entries)

pub counts-go_on : (piece : PieceView) (start end : State) → IsPiece piece → start ≡ piece.start → end ≡ piece.end
    → end.counts ≡ plus start.counts (tally_in piece)
counts-go_on piece start end run begins ends =
    ap (λ (s : State). s.counts) ends ∙ run.counts ∙ entries_count piece.start.counts piece.entries
    ∙ ap (λ (s : State). plus s.counts (tally_in piece)) (sym begins)

-- The tally of these numbers.
abbrev of_each : ℕ → ℕ → ℕ → ℕ → Tally
of_each passed tagged discarded refused = record { passed = passed; tagged = tagged; discarded = discarded; refused = refused }

-- The counts at the end minus those at the start.
pub counts-between : (start end within : Tally) → end ≡ plus start within
    → record {
      passed = end.passed - start.passed;
      tagged = end.tagged - start.tagged;
      discarded = end.discarded - start.discarded;
      refused = end.refused - start.refused;
    } ≡ within
counts-between start end within whole =
    let passed : end.passed - start.passed ≡ within.passed = omega (arith, ap (λ (t : Tally). t.passed) whole) in
    let tagged : end.tagged - start.tagged ≡ within.tagged = omega (arith, ap (λ (t : Tally). t.tagged) whole) in
    let discarded : end.discarded - start.discarded ≡ within.discarded = omega (arith, ap (λ (t : Tally). t.discarded) whole) in
    let refused : end.refused - start.refused ≡ within.refused = omega (arith, ap (λ (t : Tally). t.refused) whole) in
    ap (λ n. of_each n (end.tagged - start.tagged) (end.discarded - start.discarded) (end.refused - start.refused)) passed
    ∙ ap (λ n. of_each within.passed n (end.discarded - start.discarded) (end.refused - start.refused)) tagged
    ∙ ap (λ n. of_each within.passed within.tagged n (end.refused - start.refused)) discarded
    ∙ ap (λ n. of_each within.passed within.tagged within.discarded n) refused
