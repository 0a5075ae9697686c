use Rattle.std.proofs.Common.{◌≡◌, ℕ, length, None, Option, List, Some, arith, ◌+◌, ◌∙◌, ◌<◌, ap, sym, subst}
use Rattle.std.specs.List.{slice_get}
use Rattle.rules_code.specs.inner.Held.{held_at}
use Rattle.rules_code.specs.declared.packet_part.Part.{Part}
use Rattle.rules_code.proofs.Coding.{held_first, held_next, pushed}
use Rattle.std.proofs.lemmas.List.{length_push}
use Rattle.rules_code.proofs.lines.held_parts.Goals as goal

pub loop-line-init : goal.loop-line-init
loop-line-init c = (omega arith, held_first c.args.lines.now None, λ at lt. absurd (omega arith))

pub loop-line-preserved : goal.loop-line-preserved
loop-line-preserved c =
    let lines = c.args.lines.now in
    let at = c.loop-line.line-index in
    let old = c.loop-line.parts.items in
    let more = c.in_ok-push.ensures.items in
    let count = ap length more ∙ length_push old c.loop-line.held in
    let all = pushed old c.loop-line.held (λ k. held_at lines None k) at c.loop-line.invariant.0 c.loop-line.invariant.2 c.loop-line.invariant.1 in (
      omega (arith, count, c.loop-line.invariant.0),
      held_next lines None at c.line-item.result c.loop-line.held c.known_after_line-held.result (omega arith) c.line-item.is c.loop-line.invariant.1 c.known_after_line-held.ensures,
      subst (λ (items : List (Option Part)). (k : ℕ) → k < at + 1 → slice_get items k ≡ Some (held_at lines None k)) (sym more) all,
    )
