-- An input has one text of `size`.
use Rattle.std.proofs.Common.{◌≡◌, ◌∙◌, ℕ, List, sym}
use Rattle.text_io.specs.Lines.{lines_of}
use Rattle.text_io.specs.Printing.{IsFunctional}
use Rattle.text_io.specs.declared.ending.Done.{Done}
use Rattle.text_io.proofs.Public.{one-text, some-text}
use Rattle.cmd_size.specs.SizeText.{IsSizesText, size_rules}
use Rattle.cmd_size.specs.inner.SizeTotal.{size-total}

-- The rules of `size` are functional.
size-functional : IsFunctional size_rules
size-functional = record {
  step = λ world line here here' next next' p q. (p.0 ∙ sym q.0, p.1 ∙ sym q.1);
  close = λ world here here' done done' p q. (p.0 ∙ sym q.0, p.1 ∙ sym q.1);
}

pub one-sizes_text : (octets one other : List ℕ) (ends other_ends : Done) → IsSizesText octets one ends → IsSizesText octets other other_ends → (one ≡ other) × (ends ≡ other_ends)
one-sizes_text octets = one-text size_rules size-functional (lines_of octets) 0 tt

pub some-sizes_text : (octets : List ℕ) → (text : List ℕ) × (done : Done) × IsSizesText octets text done
some-sizes_text octets = some-text size_rules size-total (lines_of octets) 0 tt tt
