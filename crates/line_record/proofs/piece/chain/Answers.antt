use Rattle.std.proofs.Common.{◌≡◌, ◌⊎◌, ℕ, suc, ◌+◌, ◌-◌, ◌<◌, length, Some, IsTrue, refl, sym, ap, subst, ◌∙◌, inl, inr, arith}
use Rattle.std.specs.Prelude.{slice_get}
use Rattle.std.proofs.lemmas.Option.{same_Some, slice_get_within, slice_get_read}
use Rattle.line_record.specs.Piece.{PieceView, IsPiece, GoesOnFrom}
use Rattle.line_record.proofs.ChainLemmas.{AreOneRun-chain}
use Rattle.line_record.proofs.piece.chain.Goals as goal
use Rattle.line_record.proofs.piece.chain.Goals.{else-place-gt0-via-then-place-gt0+else-not-goes_on_from, else-place-gt0-via-else-place-gt0}

below_or_at : (k n : ℕ) → k < n + 1 → (k < n) ⊎ (k ≡ n)
below_or_at k n h = grind arith

pub returns-then-not-goes_on_from-clause-broken : goal.returns-then-not-goes_on_from-clause-broken
returns-then-not-goes_on_from-clause-broken c =
    let pieces = c.args.pieces.now in
    let place = c.loop-place.place in
    let within : place < length pieces = omega arith in
    record {
      earlier = c.index-pieces-place-then-place-gt0.result;
      later = c.index-pieces-place.result;
      after_first = c.if-place-gt0.true;
      before = slice_get_read pieces (length pieces) (place - 1) c.index-pieces-place-then-place-gt0.result refl (omega arith) c.index-pieces-place-then-place-gt0.is;
      here = slice_get_read pieces (length pieces) place c.index-pieces-place.result refl within c.index-pieces-place.is;
      breaks = λ goes. let told = c.goes_on_from.ensures.1 goes in let is = c.if-not-goes_on_from.true in cc;
      whole = c.loop-place.invariant.goes;
    }

pub returns-then-not-goes_on_from-clause-chain : goal.returns-then-not-goes_on_from-clause-chain
returns-then-not-goes_on_from-clause-chain c =
    let broken = returns-then-not-goes_on_from-clause-broken c in (
      λ e. cc,
      λ chain. absurd (broken.breaks (chain (c.loop-place.place - 1) broken.earlier broken.later broken.before
          (subst (λ k. slice_get c.args.pieces.now k ≡ Some broken.later) (omega arith) broken.here))),
    )

pub loop-place-preserved : goal.loop-place-preserved
loop-place-preserved c =
    let pieces = c.args.pieces.now in
    let place = c.loop-place.place in
    let within : place < length pieces = omega arith in
    let here = c.index-pieces-place.result in
    let at_here : slice_get pieces place ≡ Some here = slice_get_read pieces (length pieces) place here refl within c.index-pieces-place.is in
    record {
      goes = λ k h earlier later before after_first. elim (below_or_at (suc k) place h) [
        | inl low ↦ c.loop-place.invariant.goes k low earlier later before after_first
        | inr is ↦ elim c.else-place-gt0.branch [
          | else-place-gt0-via-then-place-gt0+else-not-goes_on_from w ↦
              let there = w.index-pieces-place-then-place-gt0.result in
              let at_there : slice_get pieces (place - 1) ≡ Some there =
              slice_get_read pieces (length pieces) (place - 1) there refl (omega arith) w.index-pieces-place-then-place-gt0.is in
              let told : IsTrue w.goes_on_from.result = cc in
              let goes : GoesOnFrom there here = w.goes_on_from.ensures.0 told in
              let lower : place - 1 ≡ k = omega arith in
              let one : there ≡ earlier = same_Some there earlier (sym at_there ∙ ap (slice_get pieces) lower ∙ before) in
              let other : here ≡ later = same_Some here later (sym at_here ∙ ap (slice_get pieces) (sym is) ∙ after_first) in
              subst (λ (p : PieceView). GoesOnFrom p later) one (subst (λ (p : PieceView). GoesOnFrom there p) other goes)
          | else-place-gt0-via-else-place-gt0 w ↦ absurd (omega arith)
        ]
      ];
      kept = λ k piece h at. elim (below_or_at k place h) [
        | inl low ↦ c.loop-place.invariant.kept k piece low at
        | inr is ↦
            let own : IsPiece here = subst IsPiece c.piece.view_is c.piece.invariant in
            let same : here ≡ piece = same_Some here piece (sym at_here ∙ ap (slice_get pieces) (sym is) ∙ at) in
            subst IsPiece same own
      ];
    }

pub returns-clause-run : goal.returns-clause-run
returns-clause-run c =
    let pieces = c.args.pieces.now in
    AreOneRun-chain pieces
    (λ place earlier later before after_first.
    let within = slice_get_within pieces (suc place) later after_first in
    c.loop-place.invariant.goes place (omega arith) earlier later before after_first)
    (λ k piece at.
    let within = slice_get_within pieces k piece at in
    c.loop-place.invariant.kept k piece (omega arith) at)
