-- The set with the name has it, and the names that it had.
use Rattle.std.proofs.Common.{Bool, true, cond, ap, ◌∙◌}
use Rattle.std.proofs.lemmas.Map.Text.{is_eq-slice_cmp}
use Rattle.std.specs.Str.{bytes_eq}
use Rattle.upc_lab.specs.inner.NamesMet.{has_name}
use Rattle.upc_lab.proofs.SettingUp.{either}
use Rattle.upc_lab.proofs.setup_hints.NamesMet.meet.Goals as goal

pub returns-clause-names : goal.returns-clause-names
returns-clause-names c = λ other.
    c.in_ok-fresh.ensures.updates.0 (record { ref_ptr = (0, 0); now = other })
    ∙ ap (λ (same : Bool). cond same true (has_name c.args.self.now other)) (is_eq-slice_cmp c.args.name.now other)
    ∙ either (bytes_eq c.args.name.now other) (has_name c.args.self.now other)
