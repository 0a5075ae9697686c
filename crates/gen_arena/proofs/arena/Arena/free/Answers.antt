use Rattle.gen_arena.proofs.arena.Arena.free.Goals as goal

pub returns-clause-lawful : goal.returns-clause-lawful
returns-clause-lawful g c = rw (← c.self.view_is) c.self.invariant.0.lawful
