use Rattle.std.proofs.Common.{◌≡◌, ◌+◌, ◌-◌, ◌%◌, ◌^◌, ◌<◌, Vec, Global, Option, Some, slice_set, ap, ◌∙◌, sym, subst, arith}
use Rattle.rules_diagrams.specs.CellNumbers.{octets_number}
use Rattle.rules_diagrams.specs.inner.Walks.{both_top, IsClearFrom}
use Rattle.rules_diagrams.specs.declared.meeting.Both.{Both}
use Rattle.rules_diagrams.specs.declared.meeting.Meeting.{Meeting}
use Rattle.rules_diagrams.proofs.CellBits.{clear_from}
use Rattle.rules_diagrams.proofs.NumberSets.{pairs_as}
use Rattle.rules_diagrams.proofs.Walking.{walked_seen, walked_leaf, walked_sides, walked_as}
use Rattle.rules_diagrams.proofs.walk.Walk.+go.Goals as goal

pub returns-then-is_seen : goal.returns-then-is_seen
returns-then-is_seen t c = record {
  walked = walked_seen c.args.one.now c.args.other.now c.args.self.now.met.items c.args.self.now.seen.items c.args.both (octets_number c.args.cell) c.requires.seen (c.is_seen.ensures c.if-is_seen.true);
  pairs = c.requires.pairs;
}

pub returns-in-Some : goal.returns-in-Some
returns-in-Some t c =
    let meeting : Meeting = record { one = c.in-Some.pair.one; other = c.in-Some.pair.other; cell = c.args.cell } in
    let place = c.keep.ensures.seen.0 in
    record {
      walked = walked_as c.args.one.now c.args.other.now c.args.self.now.met.items c.meet.new.self.met.items c.keep.new.self.met.items (slice_set c.args.self.now.seen.items place (Some c.args.both)) c.keep.new.self.seen.items
          c.args.both (octets_number c.args.cell) (ap (λ (v : Vec Meeting Global). v.items) c.keep.ensures.met)
          (c.keep.ensures.seen.1 ∙ ap (λ (v : Vec (Option Both) Global). slice_set v.items place (Some c.args.both)) c.meet.ensures.seen)
          (walked_leaf c.args.one.now c.args.other.now c.args.self.now.met.items c.meet.new.self.met.items c.args.self.now.seen.items meeting c.args.both place c.in_ok-meet.ensures.met c.in-Some.ensures.leaves
          c.requires.cell c.requires.seen);
      pairs = pairs_as c.meet.new.self.pairs c.keep.new.self.pairs c.meet.new.self.met.items c.keep.new.self.met.items c.keep.ensures.pairs (ap (λ (v : Vec Meeting Global). v.items) c.keep.ensures.met) c.in_ok-meet.ensures.pairs;
    }

pub go-requires : goal.go-requires
go-requires t c =
    let low : Both = record { one = c.sides-first.result.low; other = c.sides-second.result.low } in
    let later : c.first_bit-bit.result < both_top c.args.one.now c.args.other.now low = omega (arith, c.sides-first.ensures.low_later, c.sides-second.ensures.low_later, c.first_bit-bit.ensures.bit) in
    let at : IsClearFrom c.first_bit-bit.result c.args.cell = subst (λ n. IsClearFrom n c.args.cell) (sym c.first_bit-bit.ensures.first) c.requires.cell in (
      omega (arith, later, c.decreases, c.first_bit-bit.ensures.first),
      (
        c.sides-first.ensures.low_within,
        (c.sides-second.ensures.low_within, (c.requires.seen, (clear_from c.first_bit-bit.result (both_top c.args.one.now c.args.other.now low) c.args.cell (omega arith) at, c.requires.pairs))),
      ),
    )

pub go-requires-2 : goal.go-requires-2
go-requires-2 t c =
    let high : Both = record { one = c.sides-first.result.high; other = c.sides-second.result.high } in
    let later : c.first_bit-bit.result < both_top c.args.one.now c.args.other.now high = omega (arith, c.sides-first.ensures.high_later, c.sides-second.ensures.high_later, c.first_bit-bit.ensures.bit) in (
      omega (arith, later, c.decreases, c.first_bit-bit.ensures.first),
      (
        c.sides-first.ensures.high_within,
        (
          c.sides-second.ensures.high_within,
          (c.in_ok-go.ensures.walked.seen_are, (clear_from (c.first_bit-bit.result + 1) (both_top c.args.one.now c.args.other.now high) c.with_bit.result (omega arith) c.with_bit.ensures.clear, c.in_ok-go.ensures.pairs)),
        ),
      ),
    )

pub returns : goal.returns
returns t c =
    let low : Both = record { one = c.sides-first.result.low; other = c.sides-second.result.low } in
    let high : Both = record { one = c.sides-first.result.high; other = c.sides-second.result.high } in
    let place = c.keep-2.ensures.seen.0 in
    let at = octets_number c.args.cell in
    record {
      walked = walked_as c.args.one.now c.args.other.now c.args.self.now.met.items c.go-2.new.self.met.items c.keep-2.new.self.met.items (slice_set c.go-2.new.self.seen.items place (Some c.args.both)) c.keep-2.new.self.seen.items
          c.args.both at (ap (λ (v : Vec Meeting Global). v.items) c.keep-2.ensures.met) c.keep-2.ensures.seen.1
          (walked_sides c.args.one.now c.args.other.now c.args.both low high c.first_bit-bit.result at (octets_number c.with_bit.result) c.first_bit-bit.ensures.bit c.first_bit-bit.ensures.first
          (subst (λ n. at % 2 ^ (416 - n) ≡ 0) (sym c.first_bit-bit.ensures.first) c.requires.cell.clear) c.with_bit.ensures.number c.sides-first.ensures c.sides-second.ensures
          c.args.self.now.met.items c.go.new.self.met.items c.go-2.new.self.met.items c.go-2.new.self.seen.items c.go.new.self.seen.items place c.in_ok-go.ensures.walked c.in_ok-go-2.ensures.walked);
      pairs = pairs_as c.go-2.new.self.pairs c.keep-2.new.self.pairs c.go-2.new.self.met.items c.keep-2.new.self.met.items c.keep-2.ensures.pairs (ap (λ (v : Vec Meeting Global). v.items) c.keep-2.ensures.met) c.in_ok-go-2.ensures.pairs;
    }
