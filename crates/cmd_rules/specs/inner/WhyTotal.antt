-- The rules of `why` are total: every line has an answer. This law is in `specs/` because the `Machine` implementation of `why` cites it.
use Rattle.std.proofs.Common.{Some, refl}
use Rattle.text_io.specs.Printing.{IsTotal}
use Rattle.text_io.specs.Words.{words_of}
use Rattle.text_io.specs.declared.ending.Done.TheVariants.{Whole}
use Rattle.cmd_rules.specs.WhyText.{cell_line_read, counts_at_end, why_rules, why_text, world_after_line}

-- The rules of `why` are total.
pub why-total : IsTotal why_rules
why-total = record {
  keeps = λ before content here after sound steps. tt;
  step = λ before content sound.
      let read = cell_line_read (words_of content) in (why_text before.placed_rules before.counts read, Some (world_after_line before read), (refl, refl));
  close = λ before sound. (counts_at_end before, Whole, (refl, refl));
}
