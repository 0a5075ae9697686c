-- Each subcommand has an answer to every input.
use Rattle.std.proofs.Common.{ℕ, List, Option, option_map}
use Rattle.text_io.specs.declared.ending.Done.{Done}
use Rattle.captures_text.proofs.Public.{some_cells_text}
use Rattle.cmd_differ.proofs.Public.{some-differ_text, some-unused_text}
use Rattle.cmd_explain.proofs.Public.{some-explain_text}
use Rattle.cmd_forward.proofs.Public.{some_agreed_records}
use Rattle.cmd_fit.proofs.Public.{some_fit_text, some_links_text}
use Rattle.cmd_list.proofs.Public.{some-list_text, some-trace_text}
use Rattle.cmd_rules.proofs.Public.{some-asm_text, some-rules_text, some-why_text}
use Rattle.cmd_police.proofs.Public.{some_agreed_text}
use Rattle.cmd_size.proofs.Public.{some-sizes_text}
use Rattle.upc_lab.specs.LabText.{IsAskedText, IsLabText, kinds_asked, others_asked, rules_asked, scope_asked}
use Rattle.cmd_options.specs.declared.choice.Asked.{Asked}
use Rattle.cmd_options.specs.declared.choice.Asked.TheVariants.{Plain, Why, Cells, Fit, Police, Differ, Forward, Explain}
use Rattle.cmd_options.specs.declared.choice.Subcommand.{Subcommand}
use Rattle.cmd_options.specs.declared.choice.Subcommand.TheVariants as lab

some-lab_text : (chosen : Subcommand) (octets : List ℕ) → (answer : List ℕ) × (done : Done) × IsLabText chosen octets answer done
some-lab_text lab.Rules octets = some-rules_text octets
some-lab_text lab.Asm octets = some-asm_text octets
some-lab_text lab.Unused octets = some-unused_text octets
some-lab_text lab.List octets = some-list_text octets
some-lab_text lab.Trace octets = some-trace_text octets
some-lab_text lab.Size octets = some-sizes_text octets
some-lab_text lab.Links octets = some_links_text octets

pub some-asked_text : (asked : Asked) (setup : List ℕ) (tick : Option ℕ) (rules : List (List ℕ)) (other octets : List ℕ)
    → (answer : List ℕ) × (done : Done) × IsAskedText setup tick rules other asked octets answer done
some-asked_text (Plain subcommand) setup tick rules other octets = some-lab_text subcommand octets
some-asked_text (Why options) setup tick rules other octets = some-why_text options.count octets
some-asked_text (Cells options) setup tick rules other octets = some_cells_text options.tick.nanoseconds options.link options.timing options.numbered octets
some-asked_text (Police options) setup tick rules other octets =
    some_agreed_text (scope_asked options) tick (option_map (λ it. it.nanoseconds) options.tick) setup rules octets
some-asked_text (Fit options) setup tick rules other octets = some_fit_text options.choice (rules_asked options other) octets
some-asked_text (Forward options) setup tick rules other octets =
    some_agreed_records (others_asked options.others) tick (option_map (λ it. it.nanoseconds) options.tick) options.link setup rules octets
some-asked_text (Differ options) setup tick rules other octets = some-differ_text (kinds_asked options.programs) options.all other octets
some-asked_text (Explain options) setup tick rules other octets = some-explain_text octets
