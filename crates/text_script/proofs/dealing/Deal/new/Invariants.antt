-- The ports so far have no cells yet.
use Rattle.std.proofs.Common.{◌≡◌, [], map, replicate, vec_len}
use Rattle.text_script.proofs.dealing.Deal.new.Given as goal

abbrev pub invariant-loop : goal.invariant-loop
invariant-loop l = (vec_len l.arrivals ≡ l.counter) × (map (λ own. map (λ line. line.now) own.items) l.arrivals.items ≡ replicate l.counter [])
