-- A hidden card goes to another thread as its box does.
use denote.Struct.Struct.{exits_of}
use denote.Struct.Owning.{shape, fields, to}
use denote.Param.Send.{IsSend, AllSend, owning_send, struct_send, sendable}
use Rattle.std_alloc.proofs.SendSync.{quiet}
use Rattle.std_heap.proofs.Global.TheSendSync as handle
use Rattle.card_core.specs.contracts.serial.Core as Core
use Rattle.card_core.proofs.serial.Core.TheSendSync.{the_send as card_send}
use Rattle.upc_c.proofs.HiddenWords.{keyless}
use Rattle.upc_c.specs.contracts.hidden.card.HiddenCard.{the_row, the_type}

pub send : IsSend the_row
send =
    let all : AllSend (fields the_type) = (search sendable, (handle.the_field_send, tt)) in
    owning_send the_type all (λ d. keyless Core.the_row card_send d.alloc d.at d.core) (λ k. quiet (to the_type) (exits_of k (fields the_type)) ((struct_send (shape the_type) all).leaving k))
