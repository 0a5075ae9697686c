use denote.RattleType.{RattleType}
use denote.Param.Send.{IsSync}
use Rattle.core.specs.declared.alloc.Allocator.{Ghosts}
use Rattle.gen_arena.proofs.raw.Crossing.{deed_sync}
use Rattle.gen_arena.specs.contracts.block.Deed.{the_row}

pub sync : (R A : RattleType) (g : Ghosts A.Denot) → IsSync (the_row R A g)
sync = deed_sync
