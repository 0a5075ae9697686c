-- The rest of the line, read on from here, gives what the whole line gives.
use Rattle.std.proofs.Common.{◌≡◌, ◌≤◌, ◌+◌, ◌-◌, drop, length}
use Rattle.rules_text.specs.Names.{expanded}
use Rattle.rules_text.specs.RuleTokens.{tokens_from}
use Rattle.rules_text.specs.TextOfRules.{formed_statement, statement_from}
use Rattle.rules_text.specs.inner.SeenReading.{context_seen, form_seen, names_seen, reading_seen}
use Rattle.rules_text.proofs.statement_reader.statement_in.Given as goal

abbrev pub invariant-loop-found : goal.invariant-loop-found
invariant-loop-found l = record {
  within : l.from ≤ length l.line;
  rest : statement_from (context_seen l.context) (reading_seen l.reader) (l.from + 1)
      (expanded (names_seen l.names) l.room (form_seen l.form) l.line (l.from + 1) (tokens_from (l.from + 1) 0 (drop l.from l.line)))
      ≡ formed_statement (context_seen l.context) (names_seen l.names) (form_seen l.form) l.line (l.start + 1)
      (tokens_from (l.start + 1) 0 (drop l.start l.line));
}

abbrev pub decreases-loop-found : goal.decreases-loop-found
decreases-loop-found l = length l.line - l.from
