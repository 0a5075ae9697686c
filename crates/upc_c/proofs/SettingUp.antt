-- A card that is unchanged takes the same steps.
use Rattle.std.proofs.Common.{◌≡◌, inl, inr, sym, ◌∙◌}
use Rattle.card_core.specs.declared.reply.Reply.{Reply}
use Rattle.card_core.specs.declared.step.Step.{Step}
use Rattle.upc_c.specs.CardDesk.{IsDeskFault}
use Rattle.upc_c.specs.CardHandle.{CardTakes, card_in}
use Rattle.upc_c.specs.declared.card.UpcCard.{UpcCard}
use Rattle.upc_c.specs.declared.fault.UpcFault.{UpcFault}

pub takes-from : (first before after : UpcCard) (step : Step) (reply : Reply) → card_in before ≡ card_in first
    → CardTakes before after step reply → CardTakes first after step reply
takes-from first before after step reply same taken = record {
  old = taken.old;
  new = taken.new;
  had = sym same ∙ taken.had;
  has = taken.has;
  follows = taken.follows;
  kept = taken.kept;
}

-- The error for C is the one that was found.
pub desk-fault-from : (first before after : UpcCard) (step : Step) (found reported : UpcFault) → card_in before ≡ card_in first → reported ≡ found
    → IsDeskFault before after step found → IsDeskFault first after step reported
desk-fault-from first before after step found reported same is (inl none) = inl (sym same ∙ none.0, is ∙ none.1)
desk-fault-from first before after step found reported same is (inr refused) = inr (record {
  reply = refused.reply;
  taken = takes-from first before after step refused.reply same refused.taken;
  reason = refused.reason;
  refused = refused.refused;
  reported = is ∙ refused.reported;
})
