use Rattle.std.proofs.Common.{ap, ◌∙◌}
use Rattle.line_record.specs.inner.FirstFree.{are_held}
use Rattle.line_record.proofs.MarkLemmas.{are_held-free}
use Rattle.line_record.proofs.held_lines.HeldLines.new.Goals as goal

pub returns : goal.returns
returns c = ap are_held c.in_ok-marks.ensures ∙ are_held-free c.args.lines
