use Rattle.std.proofs.Common.{◌≡◌, Some, sym, ◌∙◌}
use Rattle.bpf_asm.specs.StatementSpelling.{Statement}
use Rattle.bpf_asm.proofs.spellings.ReadBack.{reads_back}
use Rattle.bpf_asm.proofs.laws.tokens_spell_one_statement.Goals as goal

some_statement : (one other : Statement) → Some one ≡ Some other → one ≡ other
some_statement one other e = cc

pub returns : goal.returns
returns c = λ tokens one other f g. some_statement one other (sym (reads_back tokens one f) ∙ reads_back tokens other g)
