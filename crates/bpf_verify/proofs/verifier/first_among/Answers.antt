use Rattle.std.proofs.Common.{◌≡◌, ℕ, ◌-◌, ◌<◌, true, false, inl, inr, List, length, get_or, set, ap, sym, ◌∙◌, arith}
use Rattle.std.specs.Int.{bit_at}
use Rattle.std.proofs.lemmas.List.{get_or-set_same, get_or-set_other, length-set}
use Rattle.std.proofs.lemmas.Option.{slice_get_within}
use Rattle.bpf_verify.proofs.Masks.{unwritten-from_mask, written-at_first, written-from_mask, written_next}
use Rattle.bpf_verify.proofs.Visit.{all_written, ends_there, lacks_there, next_within, one_more, one_sound, default_there}
use Rattle.bpf_verify.proofs.verifier.first_among.Goals as goal

-- Initially the mask of each place but the first has every word.
begins_full : (masks : List ℕ) (all place : ℕ) → get_or masks place 0 ≡ all → 0 < place → get_or (set masks 0 0) place 0 ≡ all
begins_full masks all place full gt = get_or-set_other masks 0 place 0 0 (λ e. absurd (omega (arith, gt, e))) ∙ full

pub loop-at-init : goal.loop-at-init
loop-at-init c =
    let masks = c.args.written.now in
    let same = length-set masks 0 0 in
    let first = get_or-set_same masks 0 0 0 (omega (arith, c.requires.room)) in
    record {
      size = omega (arith, c.requires.room, same);
      here = sym first;
      sound = λ place i lt. absurd (omega (arith, lt));
      marks = written-at_first c.args.code.now _ first (λ place gt lt. begins_full masks 65535 place (c.requires.full place (omega (arith, lt, same))) gt);
      before = λ place lt. absurd (omega (arith, lt));
    }

pub unwritten_word-requires : goal.unwritten_word-requires
unwritten_word-requires c word reads = c.in_default.ensures.none.scratch word (inl reads)

pub unwritten_or_earlier-requires : goal.unwritten_or_earlier-requires
unwritten_or_earlier-requires c =
    let found = c.in-Some-unwritten_word.ensures.some in
    let within : c.loop-at.at < length c.args.code.now = omega arith in
    let word = c.in-Some-unwritten_word.word in
    record {
      sized = c.requires.sized;
      before = c.loop-at.invariant.before;
      unwritten = unwritten-from_mask c.args.code.now c.loop-at.written c.loop-at.at word _ (default_there c.args.code.now c.loop-at.at _ within) c.loop-at.invariant.marks (omega (arith, c.loop-at.invariant.size, c.requires.sized.most)) (c.in_default.ensures.none.scratch word (inl found.0)) found.0 (ap (λ n. bit_at n word) (sym c.loop-at.invariant.here) ∙ found.1);
    }

pub with_stored-requires : goal.with_stored-requires
with_stored-requires c word stores = c.in_default.ensures.none.scratch word (inr stores)

pub pass_on-here-requires-clause-within : goal.pass_on-here-requires-clause-within
pass_on-here-requires-clause-within c next leads =
    let at_most = next_within c.args.code.now c.loop-at.at _ (omega arith) c.in_default.ensures.none next leads in
    omega (arith, at_most, c.loop-at.invariant.size)

pub loop-at-preserved : goal.loop-at-preserved
loop-at-preserved c =
    let within : c.loop-at.at < length c.args.code.now = omega arith in
    let instr_there = default_there c.args.code.now c.loop-at.at _ within in
    let same_length : length c.pass_on-here.new.written ≡ length c.loop-at.written = c.pass_on-here.auto.written in
    let bound = c.loop-at.invariant.size in
    record {
      size = omega (arith, same_length, bound);
      here = c.pass_on-here.ensures.after;
      sound = one_sound c.args.code.now c.loop-at.at _ within c.loop-at.invariant.sound c.in_default.ensures.none;
      marks = written_next c.args.code.now c.loop-at.written c.pass_on-here.new.written c.loop-at.at c.with_stored.result _ instr_there
          (omega (arith, c.loop-at.invariant.size, c.requires.sized.most))
          (record {
            stored = c.with_stored.ensures.stored;
            kept = λ word keeps. c.with_stored.ensures.others word keeps ∙ ap (λ n. bit_at n word) c.loop-at.invariant.here;
            successors = c.pass_on-here.ensures.successors;
            others = c.pass_on-here.ensures.others;
            same_length = same_length;
          })
          c.loop-at.invariant.marks;
      before = one_more c.args.code.now c.loop-at.at c.loop-at.invariant.before
          (written-from_mask c.args.code.now c.loop-at.written c.loop-at.at _ instr_there c.loop-at.invariant.marks (λ word reads. ap (λ n. bit_at n word) (sym c.loop-at.invariant.here) ∙ c.in_default-unwritten_word.ensures.none word reads));
    }

pub returns-then-is_return-clause-none : goal.returns-then-is_return-clause-none
returns-then-is_return-clause-none c =
    let last : length c.args.code.now - 1 < length c.args.code.now = omega (arith, c.requires.sized.least) in
    record {
      sized = c.requires.sized;
      sound = λ place i instr_there.
          let inside = slice_get_within c.args.code.now place i instr_there in c.loop-at.invariant.sound place i (omega arith) instr_there;
      ends = ends_there c.args.code.now _ (default_there c.args.code.now (length c.args.code.now - 1) _ last) (c.is_return.ensures.0 c.if-is_return.true);
      written = all_written c.args.code.now (λ place lt. c.loop-at.invariant.before place (omega arith));
    }

pub returns-else-is_return-clause-some : goal.returns-else-is_return-clause-some
returns-else-is_return-clause-some c =
    let last : length c.args.code.now - 1 < length c.args.code.now = omega (arith, c.requires.sized.least) in (
      c.requires.sized,
      λ place i lt instr_there. c.loop-at.invariant.sound place i (omega arith) instr_there,
      lacks_there c.args.code.now _ (default_there c.args.code.now (length c.args.code.now - 1) _ last) (λ returns. let both : true ≡ false = sym (c.is_return.ensures.1 returns) ∙ c.if-is_return.false in cc),
    )
