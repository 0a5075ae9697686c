-- `take` moves a value out of its box, which is then blank. Assumes `Logic`.
use mathlib.Core.Path.{◌≡◌, refl, sym, subst, ◌∙◌}
use Prim.Native.Nat.{◌+◌, ◌*◌, ◌<◌, ◌^◌}
use native.Mathlib.Omega.{arith}
use mathlib.Core.List.{List, [], ◌∷◌, ◌++◌}
use base.Fraction.{full_share}
use mir.Syntax.{Fn, w64}
use mir.MapTy.{inst_fn}
use mir.Val.{Val, vptr, vint}
use base.Logic.{SProp, emp, never, id⊢}
use base.Fml.{ftrue, fat, froom, flft}
use prog.Wp.{Env, WpFn}
use contract.BorrowLft.{◌⊑◌}
use contract.Monad.{fact, fact_i}
use contract.Running.{tables}
use types.Kit.{‵, raw, ◌⊛◌, prop, at_ret, ◌$◌, ◌∵◌, !, qed, by, move, keep, drop, use0, use1, use2, split, join, rewrite, regoal, fsplit, fsplit3, fjoin, fjoin3, feq_i, feq_l, flt_i, flt_l}
use types.Part.{whole, sub}
use types.Run.{look, stop, fld, load, of_opd, bin, size_lit, first, blocks, exec, returns, enter}
use types.ByLocal.{alloc_all, pass_all, free_all, look_at, get, get_in, through, sets, sets_last, take_at, give_at, env}
use denote.RattleType.{owns}
use denote.Builtin.{usize}
use denote.Param.{layout}
use denote.RawPtr.{Ptr, in_a_block}
use denote.Signature.{plain, types_at}
use denote.Steps.{nothing, opens, closes, heard}
use denote.Triple.Walked.{Stays, stay_dropped, stay_ref, walk_of, Goes-dropped, Goes-ref}
use lib.ListN.{length, set, get_or, length-set}
use Rattle.std.specs.Prelude.{Some, None}
use Rattle.core.proofs.alloc.Shapes.{after}
use Rattle.core.proofs.mem.Param.{El, R, args, elτ}
use Rattle.core.proofs.ptr.Rows.{times_below, one_below}
use Rattle.std.proofs.raw_atomic.Walks.{proved_at, leaves}
use Rattle.std_alloc.proofs.RawLayout.{as_raw}
use Rattle.std_alloc.proofs.RcSteps.{word, word-Good}
use Rattle.gen_arena.specs.inner.Boxes.{BoxHolds}
use Rattle.gen_arena.specs.inner.BlockMemory.{box_owned, boxes_owned, row_owned}
use Rattle.gen_arena.proofs.raw.Rows.{width, Box, held_within, gap, box_out, box_in}
use Rattle.gen_arena.proofs.raw.Walks.{Owner, Begin, pointer_had, value_out}
use Rattle.gen_arena.specs.contracts.block.Boxes.take.{ended, clauses}
use Rattle.gen_arena.specs.contracts.block.Boxes.take.Key.{name as #self}
use Rattle.gen_arena.proofs.block.Boxes.take.Statement.{statement}
use Rattle.gen_arena.proofs.block.Boxes.take.Code as code

pub take_spec : {M : Type 1} → statement M
take_spec 𝓤 𝓛 𝓜 𝓡 wired X LX =
    let H = 𝓛.H in let 𝓣 = tables 𝓤 H 𝓜 𝓡 𝓡.env in
    let E : El = record { row = X; laws = LX } in
    let T = ended X in let c = clauses X 𝓛 𝓜.mem 𝓡.returns in
    let fn : Fn = inst_fn (args E) code.function in
    let hs : Stays T.signature.params T.kept = (stay_ref (0 ∷ []) tt (plain (λ _. Owner E)), (stay_dropped (plain (λ _. Begin E)) T.kept.1.0, (stay_dropped (plain (λ _. usize)) T.kept.1.1.0, tt))) in
    proved_at 𝓛 T hs c 𝓜 𝓡 (Goes-ref 𝓛 2 0 tt (plain (λ _. Owner E)), (Goes-dropped 𝓛 2 (plain (λ _. Begin E)) T.kept.1.0 (λ κs x f. refl), (Goes-dropped 𝓛 2 (plain (λ _. usize)) T.kept.1.1.0 (λ κs x f. refl), tt)))
    (#self (args E)) fn (code.unfolded 𝓤 H 𝓜 𝓡 wired (X, tt)) (λ z are.
    let Post : Val → SProp 𝓤 = (walk_of 𝓛 T hs c).post z in
    let κs = z.0.0 in let qs = z.0.1 in let a = z.0.3 in let us = z.0.4 in
    let rb = a.0.ref_ptr.0 in let ro = a.0.ref_ptr.1 in let d = a.0.now in let start = a.1.0 in let k = a.1.1.0 in
    let Asks : Type 0 = (start.to ≡ d.start) × BoxHolds d.held k in
    let tokens = ‵ (flft κs.0 qs.0) ⊛ ‵ (flft κs.1.0 qs.1.0) ⊛ ‵ ftrue in
    qed 𝓛 ((tokens ⊛ ‵ (owns (types_at T.signature.params κs) a us)) ∷ raw ((c κs a).requires z.1) ∷ []) ∵
    move ! (1 ∷ []) $ use1 𝓛 (raw (fact 𝓤 (κs.1.0 ⊑ X.lives)) ⊛ raw (fact 𝓤 Asks)) (id⊢ 𝓤 _) $ split ! $ drop ! $ heard ! Asks (λ asked.
    split ! $ split ! $ move ! (2 ∷ []) $ fsplit ! $ fsplit3 ! $ feq_l ! (λ e0. move ! (2 ∷ []) $ fsplit ! $ pointer_had ! start.to us.1.0 (λ e1.
    fsplit ! $ fsplit ! $ feq_l ! (λ e2. flt_l ! (λ fits. keep ! (1 ∷ 2 ∷ 3 ∷ 4 ∷ []) $
    regoal ! (λ (vs : List Val). prop (WpFn 𝓤 H 𝓣.C 𝓣.Λ fn vs Post)) (λ i. e0 i ++ (e1 i ++ (e2 i ++ []))) refl $
    enter ! 𝓣.C 𝓣.Λ fn (vptr rb ro ∷ word start.to ∷ vint w64 k ∷ []) Post $
    alloc_all ! (λ l. pass_all ! refl ((tt, tt), (word-Good [] start.to, ((tt, record { fits = fits }), tt))) $
    let En : Env 𝓤 H = env fn.locals l in
    let x = asked.1.0 in let there = held_within d.held k x asked.1.1 in
    -- [the boxes; the mark; the owner's place, open; the other tokens; the locals]
    opens ! tt (Owner E) {h = d} rb ro (λ vs. move ! (1 ∷ []) $ fsplit ! $ move ! (1 ∷ []) $
    in_a_block ! d.start (λ p. row_owned (R E) p d.held) (id⊢ 𝓤 (never 𝓤)) (λ b o is. fsplit ! $ flt_l ! (λ small.
    let s = width E in let at = k * s + o in let left : List (Box E) = set d.held k None in
    let new : (Owner E).Denot = record { of = d.of; start = d.start; held = left } in
    let Value : Type 0 = get_or d.held k None ≡ Some x in
    let Blank : Type 0 = (new.start ≡ d.start) × (new.held ≡ set d.held k None) in
    let tiny : s < 2 ^ 64 = omega (arith, one_below (length d.held) s (2 ^ 63) (omega arith) small) in
    let far : k * s < 2 ^ 64 = omega (arith, times_below k (length d.held) s (2 ^ 63) (omega arith) small) in
    take_at ! 2 $ rewrite ! 0 (λ (p : Ptr). ‵ (fat full_share (layout (Begin E)) (l 2) 0 (word p))) (asked.0 ∙ is) refl $ give_at ! 2 $
    first ! $ blocks ! $
    sets ! (bin ! (get ! refl) (size_lit ! (record { fits = tiny })) (record { fits = far })) refl (tt, record { fits = far }) $
    sets ! (bin ! (get_in ! (fld ! refl (stop !)) (sub ! 0 refl (whole !))) (get ! refl) tt) refl (tt, tt) $
    use1 𝓛 (‵ (box_owned (R E) b at (get_or d.held k None)) ⊛ ‵ (gap E 𝓛 b o d.held k)) (box_out E 𝓛 b d.held k o there) $ split ! $
    rewrite ! 0 (λ (box : Box E). ‵ (box_owned (R E) b at box)) asked.1.1 refl $
    value_out ! E x b at (λ v good.
    sets_last ! (of_opd ! (load ! (through ! refl (stop !)) (look ! 0 refl))) refl good $
    exec ! 𝓣.C 𝓣.Λ En (after 1 fn.body) (at_ret En Post) $ sets ! (of_opd ! (get ! refl)) refl good $
    -- The box is blank again, and goes back among the others.
    use1 𝓛 (‵ (froom (elτ E) b at)) (𝓛.laws.at_room (elτ E) b at v) $ as_raw ! (elτ E) b at $
    move ! (0 ∷ 2 ∷ 3 ∷ 4 ∷ 5 ∷ 6 ∷ 7 ∷ []) $ use2 𝓛 (‵ (boxes_owned (R E) b o left)) (box_in E 𝓛 b d.held k o there None) $
    flt_i ! (length left * s) (2 ^ 63) (subst (λ n. n * s < 2 ^ 63) (sym (length-set d.held k None)) small) $ fjoin ! $
    rewrite ! 0 (λ (p : Ptr). ‵ (row_owned (R E) p left)) (sym is) refl $ move ! (1 ∷ 0 ∷ []) $ fjoin ! $ move ! (1 ∷ 0 ∷ []) $
    closes ! tt (Owner E) new vs rb ro $ returns ! (look_at ! 0 refl) $ free_all ! refl $
    -- [the owner, in two parts; its token; the value; the other tokens]
    feq_i ! (List Val) us.0 (vptr rb ro ∷ []) e0 $ fjoin3 ! $ nothing ! $ nothing ! $ fjoin ! $ nothing ! $ fjoin ! $ move ! (1 ∷ 0 ∷ []) $ fjoin ! $
    move ! (1 ∷ 3 ∷ []) $ join ! $ use0 𝓛 (raw (fact 𝓤 Blank)) (fact_i 𝓤 Blank (emp 𝓤) (refl, refl)) $ use0 𝓛 (raw (fact 𝓤 Value)) (fact_i 𝓤 Value (emp 𝓤) asked.1.1) $ join ! $
    move ! (1 ∷ 2 ∷ 3 ∷ 0 ∷ []) $ by ! (leaves 𝓛 T hs c z v x (new, (tt, (tt, tt))) (tt, (tt, (tt, tt)))))))))))))))
