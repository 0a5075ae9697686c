use Rattle.std.proofs.Common.{◌≡◌, ◌<◌, ℕ, Some, length, refl, ap, subst, arith}
use Rattle.std.specs.Prelude.{slice_get, slice_set}
use Rattle.std.proofs.lemmas.Option.{slice_get_read}
use Rattle.card_core.proofs.serial.judgement_on_line.Goals as goal

pub returns-clause-line : goal.returns-clause-line
returns-clause-line c =
    let lines = c.args.lines.now.items in
    let line = c.index_mut-line.result.now in
    let within : c.from.result < length lines = omega (arith, c.requires, c.from.ensures) in
    record {
      line = line;
      there = subst (λ (n : ℕ). slice_get lines n ≡ Some line) c.from.ensures
          (slice_get_read lines (length lines) c.from.result line refl within c.index_mut-line.ensures.value);
      next = c.judgement_at.new.line;
      did = c.judgement_at.ensures.judged;
      after = ap (λ (n : ℕ). slice_set lines n c.judgement_at.new.line) c.from.ensures;
    }
