-- The table of values that were made of those of a table.
use Rattle.std.proofs.Common.{◌∙◌, ap, option_map}
use Rattle.cmd_explain.proofs.Mapped.{value_mapped}
use Rattle.cmd_explain.proofs.fault_sentences.sentence_among.Goals as goal

pub returns : goal.returns
returns c = ap (option_map (λ sentence. sentence.now)) c.value_among.ensures ∙ value_mapped _ _ _ c.args.key.now c.args.rows.now
