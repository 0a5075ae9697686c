-- The rules of `size` are total: each line has an answer. This law is in `specs/` because the `Machine` implementation of
-- `size` cites it.
use Rattle.std.proofs.Common.{[], Some, refl}
use Rattle.text_io.specs.Printing.{IsTotal}
use Rattle.text_io.specs.Words.{words_of}
use Rattle.text_io.specs.declared.ending.Done.TheVariants.{Whole}
use Rattle.cmd_size.specs.SizeText.{size_answer, size_rules}

-- The rules of `size` are total.
pub size-total : IsTotal size_rules
size-total = record {
  keeps = λ world content text after sound steps. tt;
  step = λ world content sound. (size_answer (words_of content), Some world, (refl, refl));
  close = λ world sound. ([], Whole, (refl, refl));
}
