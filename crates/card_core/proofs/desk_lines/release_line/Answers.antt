use Rattle.std.proofs.Common.{◌≡◌, ◌<◌, ℕ, Some, length, refl, ap, subst, arith}
use Rattle.std.specs.Prelude.{slice_get, slice_set}
use Rattle.std.proofs.lemmas.Option.{slice_get_read}
use Rattle.card_core.proofs.DeskLemmas.{releases}
use Rattle.card_core.proofs.desk_lines.release_line.Goals as goal

pub returns-clause-line : goal.returns-clause-line
returns-clause-line c =
    let lines = c.args.lines.now.items in
    let line = c.index_mut-line.result.now in
    let within : c.from.result < length lines = omega (arith, c.requires.there, c.from.ensures) in
    record {
      line = line;
      there = subst (λ (n : ℕ). slice_get lines n ≡ Some line) c.from.ensures
          (slice_get_read lines (length lines) c.from.result line refl within c.index_mut-line.ensures.value);
      next = c.release.new.line;
      did = releases c.args.directory.now c.release.new.directory c.args.vc c.args.seating.now line c.release.new.line c.release.result
          (c.release.ensures.served c.args.seating.now c.requires.sits) c.release.ensures.piece c.release.ensures.gone c.release.ensures.freed
          c.release.ensures.directory_unchanged c.release.ensures.line_unchanged c.release.ensures.used;
      after = ap (λ (n : ℕ). slice_set lines n c.release.new.line) c.from.ensures;
    }
