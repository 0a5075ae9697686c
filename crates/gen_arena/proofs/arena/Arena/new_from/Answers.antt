use Rattle.std.proofs.Common.{◌≡◌, ◌≤◌, ℕ, length, sym, subst, arith}
use Rattle.gen_arena.specs.Slot.{greatest_generation}
use Rattle.gen_arena.specs.inner.PlaceRow.{IsReached}
use Rattle.gen_arena.specs.inner.Chain.{IsSoundArena}
use Rattle.gen_arena.proofs.PlaceLemmas.{AreFresh-slots}
use Rattle.gen_arena.proofs.ChainLemmas.{IsSound-fresh, IsSound-worn_out}
use Rattle.gen_arena.proofs.arena.Arena.new_from.Goals.{then-used-lt4294967295, else-used-lt4294967295}
use Rattle.gen_arena.proofs.arena.Arena.new_from.Goals as goal

pub invariant_of-result : goal.invariant_of-result
invariant_of-result g c =
    let row = c.in-Ok.places in
    let places = row.places in
    let few : c.args.slots ≤ 65535 = let fits = c.ranges.slots.fits in omega (arith, fits) in
    let most : c.args.used ≤ greatest_generation = let fits = c.ranges.used.fits in omega (arith, fits) in
    let From : ℕ × ℕ → Type 0 = λ listed. IsSoundArena places listed.0 listed.1 × IsReached row listed.0 in
    let long : length places ≡ c.args.slots = c.in-Ok.ensures.0 in
    elim c.if-used-lt4294967295.branch [
      | then-used-lt4294967295 w ↦
          let sound = IsSound-fresh places c.args.slots c.args.used few c.in-Ok.ensures w.if-used-lt4294967295.true in
          subst From (sym w.first-is) (sound, λ _. omega arith)
      | else-used-lt4294967295 w ↦
          let worn : c.args.used ≡ greatest_generation = omega (arith, most, w.if-used-lt4294967295.false) in
          let sound = IsSound-worn_out places c.args.slots c.args.used few c.in-Ok.ensures worn in
          subst From (sym w.first-is) (sound, λ within. omega (arith, within, long))
    ]

pub returns-clause-made : goal.returns-clause-made
returns-clause-made g c = AreFresh-slots c.in-Ok.places.places c.args.slots c.args.used c.in-Ok.ensures
