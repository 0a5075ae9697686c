use Rattle.std.proofs.Common.{sym, subst}
use Rattle.card_core.specs.declared.step.Step.TheVariants.{Cut}
use Rattle.upc_c.specs.CardJournal.{IsJournalFault}
use Rattle.upc_c.proofs.journal.upc_card_cut.Goals as goal

pub returns-in-Err-clause-refused : goal.returns-in-Err-clause-refused
returns-in-Err-clause-refused c = λ _.
    subst (IsJournalFault c.args.card.now c.hand_out_to.new.card c.args.path c.args.channel Cut c.args.room.now)
    (sym c.report.ensures.written) c.in-Err.ensures.refused
