-- The card is unchanged up to the step.
use Rattle.std.proofs.Common.{List, subst}
use Rattle.line_record.specs.declared.entry.Entry.{Entry}
use Rattle.upc_c.specs.CardJournal.{AreWritten}
use Rattle.upc_c.proofs.HandingOut.{journal-fault-from}
use Rattle.upc_c.proofs.SettingUp.{takes-from}
use Rattle.upc_c.proofs.journal.hand_out_to.Goals as goal

pub returns-in-Ok-hand_out_on-clause-handed : goal.returns-in-Ok-hand_out_on-clause-handed
returns-in-Ok-hand_out_on-clause-handed c = record {
  vc = c.in-Ok.vc;
  numbers = c.in-Ok.ensures.vc;
  piece = c.in-Ok-hand_out_on.piece;
  taken = takes-from c.args.card.now c.vc_on.new.card c.hand_out_on.new.card _ _ c.vc_on.ensures.kept c.in-Ok-hand_out_on.ensures.handed;
  entries = subst (λ (entries : List Entry). AreWritten entries c.args.room.now c.write_entries.new.room) c.entries.ensures.entries c.write_entries.ensures;
  rest = c.journal_for_c.ensures;
}

pub returns-in-Err-hand_out_on-clause-refused : goal.returns-in-Err-hand_out_on-clause-refused
returns-in-Err-hand_out_on-clause-refused c = journal-fault-from c.args.card.now c.vc_on.new.card c.hand_out_on.new.card c.args.path c.args.channel
    c.in-Ok.vc c.args.when c.args.room.now c.in-Err-hand_out_on.found c.vc_on.ensures.kept c.in-Ok.ensures.vc c.in-Err-hand_out_on.ensures.refused
