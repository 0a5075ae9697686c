use Rattle.std.proofs.Common.{◌≤◌, None, replicate, ap, ◌∙◌, arith}
use Rattle.gen_arena.proofs.PlaceLemmas.{IsRow-blank, AreFresh-blank}
use Rattle.gen_arena.proofs.place.PlaceRow.new.Goals as goal

pub invariant_of-result : goal.invariant_of-result
invariant_of-result g c =
    let made = c.in_ok-start.ensures in
    let few : c.args.count ≤ 65535 = let fits = c.ranges.count.fits in omega (arith, fits) in
    let blank = made.1 ∙ ap (λ n. replicate n None) c.from-room.ensures in
    (made.0, made.2, made.3 ∙ c.from-room.ensures, made.4, IsRow-blank c.in_ok-start.boxes.held c.args.count few blank)

pub returns : goal.returns
returns g c =
    let few : c.args.count ≤ 65535 = let fits = c.ranges.count.fits in omega (arith, fits) in
    let blank = c.in_ok-start.ensures.1 ∙ ap (λ n. replicate n None) c.from-room.ensures in
    AreFresh-blank c.args.used c.in_ok-start.boxes.held c.args.count few blank
