use Rattle.std.proofs.Common.{[], ◌∷◌, refl, ap, ◌∙◌}
use Rattle.line_record.specs.History.{NamedCell, entry_of}
use Rattle.line_record.specs.declared.state.State.{State}
use Rattle.line_record.proofs.EntryLemmas.{Judges, Judges-verdict, Judges-levels}
use Rattle.line_record.proofs.state.State.judge.Goals as goal

pub returns-clause-run : goal.returns-clause-run
returns-clause-run c =
    let contracts = c.args.contracts.now in
    let before = c.args.self.now in
    let verdict = c.judge_named-verdict.result in
    let cell : NamedCell =
    record { moment = c.args.moment; clp = c.args.clp; value = c.args.value; program = c.args.program } in
    let after : State =
    record { levels = c.judge_named-verdict.new.levels; last = c.args.moment; counts = c.count.new.self } in
    let judges : Judges contracts before after cell verdict = record {
      one_each = c.requires.one_each;
      sized = c.judge_named-verdict.ensures.sized;
      later = c.requires.later;
      last = refl;
      verdict = c.judge_named-verdict.ensures.verdict;
      levels = c.judge_named-verdict.ensures.levels;
      others = c.judge_named-verdict.ensures.others;
      none = λ e. (c.judge_named-verdict.ensures.none e).0;
    } in
    record {
      opens = c.requires.one_each;
      closes = c.judge_named-verdict.ensures.sized ∙ c.requires.one_each;
      moments = (c.requires.later, tt);
      verdicts = λ opening holds.
          ap (λ given. entry_of cell given ∷ []) (Judges-verdict contracts before after cell verdict judges opening holds);
      levels = λ opening holds. Judges-levels contracts before after cell verdict judges opening holds;
      last = refl;
      counts = c.count.ensures;
    }
