use Rattle.std.proofs.Common.{◌≡◌, ℕ, ◌+◌, Some, length, refl, sym, subst, ◌∙◌, arith}
use Rattle.std.specs.Prelude.{slice_get}
use Rattle.std.proofs.lemmas.Option.{slice_get_read}
use Rattle.card_core.specs.inner.Listing.{IsNearest}
use Rattle.card_core.proofs.ListingLemmas.{nearest-none, nearest-free, nearest-owned}
use Rattle.card_core.proofs.connection_state.next_among.Goals.{in-Some, in_default}
use Rattle.card_core.proofs.connection_state.next_among.Goals as goal

pub loop-line-init : goal.loop-line-init
loop-line-init c = nearest-none c.args.lines.now c.args.earlier

pub loop-line-preserved : goal.loop-line-preserved
loop-line-preserved c =
    let lines = c.args.lines.now in
    let line = c.line-item.result in
    let here : slice_get lines c.loop-line.line-index ≡ Some line =
    slice_get_read lines (length lines) c.loop-line.line-index line refl c.loop-line-test.true c.line-item.is in
    elim c.match-owner.branch [
      | in-Some w ↦
          subst (IsNearest lines (c.loop-line.line-index + 1) c.args.earlier) (sym (w.best-is ∙ w.nearer-best.ensures))
          (nearest-owned lines c.loop-line.line-index line here c.args.earlier c.loop-line.best w.in-Some.owner
          (sym w.in-Some.ensures.owner) c.loop-line.invariant)
      | in_default w ↦
          subst (IsNearest lines (c.loop-line.line-index + 1) c.args.earlier) (sym w.best-is)
          (nearest-free lines c.loop-line.line-index line here c.args.earlier c.loop-line.best
          (sym w.in_default.ensures.owner) c.loop-line.invariant)
    ]

pub returns : goal.returns
returns c =
    let end : c.loop-line.line-index ≡ length c.args.lines.now = omega arith in
    subst (λ (n : ℕ). IsNearest c.args.lines.now n c.args.earlier c.loop-line.best) end c.loop-line.invariant
