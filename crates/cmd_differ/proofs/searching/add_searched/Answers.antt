-- What is printed is by all rules that decide no cell.
use Rattle.std.proofs.Common.{◌++◌, ◌∙◌, ap, refl}
use Rattle.cmd_differ.specs.UnusedText.{unused_text}
use Rattle.cmd_differ.proofs.searching.add_searched.Goals as goal

pub returns : goal.returns
returns c = (
  unused_text c.args.placed_rules.now.begins.items c.args.unused.now,
  c.in_ok-add_unused_text.ensures ∙ ap (λ xs. c.args.answers.now.items ++ unused_text xs c.args.unused.now) c.deref.ensures.value,
  record {
    rules = c.args.placed_rules.now.rules;
    read = refl;
    unused = c.args.unused.now;
    are_unused = c.requires;
    prints = refl;
    finds = c.finding_of.ensures;
  },
)
