-- Invariants of the data behind the locks of a running card. They hold whenever a lock is free.
use Rattle.std.specs.Prelude.{◌≡◌, Some, List}
use Rattle.bpf_code.specs.declared.instr.Instr.{Instr}
use Rattle.bpf_verify.specs.Accepted.{IsAccepted}
use Rattle.gen_arena.specs.declared.id.Id.{Id}
use Rattle.gen_arena.specs.Slot.{Slot}
use Rattle.gen_arena.specs.Live.{live_value}

-- If the id is live, its program is accepted.
abbrev pub IsOfAccepted : List (Slot (List Instr)) → Id → Type 0
IsOfAccepted store id = (code : List Instr) → live_value store id ≡ Some code → IsAccepted code
