use denote.RattleType.{RattleType}
use denote.Param.Send.{IsSync}
use Rattle.gen_arena.proofs.raw.Crossing.{boxes_sync}
use Rattle.gen_arena.specs.contracts.block.Boxes.{the_row}

pub sync : (R : RattleType) → IsSync R → IsSync (the_row R)
sync = boxes_sync
