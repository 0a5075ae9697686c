use denote.RattleType.{RattleType}
use denote.Param.Send.{IsSend}
use Rattle.gen_arena.proofs.raw.Crossing.{boxes_send}
use Rattle.gen_arena.specs.contracts.block.Boxes.{the_row}

pub send : (R : RattleType) → IsSend R → IsSend (the_row R)
send = boxes_send
