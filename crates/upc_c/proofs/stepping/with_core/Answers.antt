use Rattle.std.proofs.Common.{rules}
use Rattle.upc_c.proofs.stepping.with_core.Goals as goal

pub put_core-requires : goal.put_core-requires
put_core-requires g c = c.requires.reached c.in-Some.core.value c.call-answer.new.arg2 c.call-answer.result c.in-Some.ensures.reached (search rules)
