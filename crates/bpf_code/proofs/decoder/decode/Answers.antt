use Rattle.std.proofs.Common.{rules, ◌≡◌, ℕ, ◌/◌, ◌%◌, ◌<◌, List, [], length, get_or, refl, sym, arith, inl}
use Rattle.std.specs.Simd.{first_chunks}
use Rattle.bpf_code.proofs.Fronts.{IsFront-none, IsFront-more, IsFront-all, chunk_at, SpellsCode-ragged, SpellsCode-known, IsFirstUnknown-place, IsFirstUnknown-code}
use Rattle.bpf_code.specs.OctetSpelling.{IsFirstUnknown, eight_at}
use Rattle.bpf_code.proofs.decoder.decode.Goals as goal
use Rattle.bpf_code.proofs.decoder.decode.Goals.{After-drop-code}

pub returns-then-not-is_empty-clause-spelled : goal.returns-then-not-is_empty-clause-spelled
returns-then-not-is_empty-clause-spelled c = λ code s.
    let ragged : 0 < length c.args.octets.now % 8 = search rules in
    absurd (SpellsCode-ragged c.args.octets.now code s ragged)

pub loop-at-init : goal.loop-at-init
loop-at-init c =
    let none : c.in_ok-code.code.items ≡ [] = search rules in
    record { front = rw none (IsFront-none c.args.octets.now); counted = search rules; room = search rules }

-- The chunk at the loop's place is `eight_at` that place.
chunk_here : (octets : List ℕ) (eights : List (List ℕ)) (at : ℕ) → eights ≡ first_chunks 8 (length octets / 8) octets → at < length octets / 8 → get_or eights at [] ≡ eight_at octets at
chunk_here octets eights at e h = rw e (chunk_at (length octets / 8) at octets h)

-- The octets at the loop's place are the first unknown ones.
first_unknown : (c : After-drop-code) → IsFirstUnknown c.args.octets.now c.loop-at.at c.in-Err.unknown
first_unknown c =
    let whole : length c.args.octets.now % 8 ≡ 0 = search rules in
    let many : length c.as_chunks.result.0.now ≡ length c.args.octets.now / 8 = c.as_chunks.ensures.front_len in
    let place : c.loop-at.at < length c.args.octets.now / 8 = omega arith in
    let here = chunk_here c.args.octets.now c.as_chunks.result.0.now c.loop-at.at c.as_chunks.ensures.front place in
    record {
      within = omega arith;
      there = rw here at (sym c.in-Err.ensures.code);
      unknown = λ i s. c.in-Err.ensures.nothing_spelled i (rw here s);
      before = c.loop-at.invariant.front.before;
    }

pub returns-in-Err-clause-fault : goal.returns-in-Err-clause-fault
returns-in-Err-clause-fault c = (search rules, first_unknown c)

pub returns-in-Err-clause-unknown : goal.returns-in-Err-clause-unknown
returns-in-Err-clause-unknown c = λ at code whole u.
    let place = IsFirstUnknown-place c.args.octets.now c.loop-at.at at c.in-Err.unknown code (first_unknown c) u in
    let number = IsFirstUnknown-code c.args.octets.now c.loop-at.at at c.in-Err.unknown code (first_unknown c) u in
    inl cc

pub returns-in-Err-clause-spelled : goal.returns-in-Err-clause-spelled
returns-in-Err-clause-spelled c = λ code s.
    absurd (SpellsCode-known c.args.octets.now code c.loop-at.at c.in-Err.unknown s (first_unknown c))

pub loop-at-preserved : goal.loop-at-preserved
loop-at-preserved c =
    let many : length c.as_chunks.result.0.now ≡ length c.args.octets.now / 8 = c.as_chunks.ensures.front_len in
    let place : c.loop-at.at < length c.args.octets.now / 8 = omega arith in
    let here = chunk_here c.args.octets.now c.as_chunks.result.0.now c.loop-at.at c.as_chunks.ensures.front place in
    let spelled = rw here at ((c.in-Ok.ensures.spelled c.in-Ok.instr).1 refl) in
    let next = IsFront-more c.args.octets.now c.loop-at.at c.loop-at.code.items c.in-Ok.instr c.loop-at.invariant.front spelled in
    record { front = rw c.push_reserved.ensures.items next; counted = search rules; room = search rules }

pub returns-clause-code : goal.returns-clause-code
returns-clause-code c = IsFront-all c.args.octets.now c.loop-at.at c.loop-at.code.items (search rules) c.loop-at.invariant.front

pub returns-clause-unknown : goal.returns-clause-unknown
returns-clause-unknown c = λ at code whole u.
    absurd (SpellsCode-known c.args.octets.now c.loop-at.code.items at code (returns-clause-code c) u)
