use Rattle.std.proofs.Common.{◌≡◌, length}
use Rattle.gen_arena.proofs.PlaceLemmas.{ClearedTo}
use Rattle.gen_arena.proofs.place.clear.Given as goal

abbrev pub invariant-loop-k : goal.invariant-loop-k
invariant-loop-k g l =
    (l.boxes.start ≡ l.fn.boxes.start) × ClearedTo l.boxes.held (length l.fn.boxes.held) l.count l.k
