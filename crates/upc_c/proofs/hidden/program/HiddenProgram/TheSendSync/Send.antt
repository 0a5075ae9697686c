-- A hidden program goes to another thread as its box does.
use denote.Struct.Struct.{exits_of}
use denote.Struct.Owning.{shape, fields, to}
use denote.Param.Send.{IsSend, AllSend, owning_send, struct_send, sendable}
use Rattle.std_alloc.proofs.SendSync.{quiet}
use Rattle.std_heap.proofs.Global.TheSendSync as handle
use Rattle.bpf_verify.specs.contracts.program.Program as Program
use Rattle.bpf_verify.proofs.program.Program.TheSendSync.{the_send as program_send}
use Rattle.upc_c.proofs.HiddenWords.{keyless}
use Rattle.upc_c.specs.contracts.hidden.program.HiddenProgram.{the_row, the_type}

pub send : IsSend the_row
send =
    let all : AllSend (fields the_type) = (search sendable, (handle.the_field_send, tt)) in
    owning_send the_type all (λ d. keyless Program.the_row program_send d.alloc d.at d.code) (λ k. quiet (to the_type) (exits_of k (fields the_type)) ((struct_send (shape the_type) all).leaving k))
