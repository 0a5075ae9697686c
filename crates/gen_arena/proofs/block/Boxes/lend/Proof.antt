-- `lend` returns the value of a box. Assumes `Logic`.
use mathlib.Core.Path.{◌≡◌, refl, ◌∙◌}
use Prim.Native.Nat.{◌+◌, ◌*◌, ◌<◌, ◌^◌}
use native.Mathlib.Omega.{arith}
use mathlib.Core.List.{List, [], ◌∷◌, ◌++◌}
use base.Fraction.{full_share}
use mir.Syntax.{Fn, w64}
use mir.MapTy.{inst_fn}
use mir.Val.{Val, vptr, vint}
use base.Logic.{SProp, emp, never, id⊢}
use base.Fml.{ftrue, fat, flft}
use prog.Wp.{Env, WpFn}
use contract.BorrowLft.{◌⊑◌}
use contract.Monad.{fact, fact_i}
use contract.Running.{tables}
use types.Kit.{‵, raw, ◌⊛◌, prop, at_ret, ◌$◌, ◌∵◌, !, qed, by, move, keep, drop, use0, use1, split, join, rewrite, regoal, fsplit, fjoin, feq_i, feq_l, flt_l}
use types.Part.{whole, sub}
use types.Run.{stop, fld, addr, of_opd, bin, size_lit, first, blocks, exec, returns, enter}
use types.ByLocal.{alloc_all, pass_all, free_all, look_at, get, get_in, through, sets, sets_last, take_at, give_at, env}
use denote.RattleType.{owns}
use denote.Builtin.{usize, RefOf}
use denote.Param.{layout}
use denote.RawPtr.{Ptr, in_a_block}
use denote.Signature.{plain, types_at}
use denote.Opens.{hide, unhide}
use denote.Steps.{nothing, heard}
use denote.Triple.Walked.{Stays, stay_dropped, walk_of, Goes-dropped}
use lib.ListN.{length, get_or}
use Rattle.std.specs.Prelude.{Some, None}
use Rattle.core.proofs.alloc.Shapes.{after}
use Rattle.core.proofs.mem.Param.{El, R, args}
use Rattle.core.proofs.ptr.Rows.{times_below, one_below}
use Rattle.std.proofs.raw_atomic.Walks.{proved_at, leaves}
use Rattle.std_alloc.proofs.RcSteps.{word, word-Good}
use Rattle.gen_arena.specs.inner.Boxes.{BoxHolds}
use Rattle.gen_arena.specs.inner.BlockMemory.{box_lent, row_lent}
use Rattle.gen_arena.proofs.raw.Rows.{width, Box, held_within, box_seen}
use Rattle.gen_arena.proofs.raw.Walks.{Owner, Begin, pointer_had}
use Rattle.gen_arena.specs.contracts.block.Boxes.lend.{ended, clauses}
use Rattle.gen_arena.specs.contracts.block.Boxes.lend.Key.{name as #self}
use Rattle.gen_arena.proofs.block.Boxes.lend.Statement.{statement}
use Rattle.gen_arena.proofs.block.Boxes.lend.Code as code

pub lend_spec : {M : Type 1} → statement M
lend_spec 𝓤 𝓛 𝓜 𝓡 wired X LX =
    let H = 𝓛.H in let 𝓣 = tables 𝓤 H 𝓜 𝓡 𝓡.env in
    let E : El = record { row = X; laws = LX } in
    let T = ended X in let c = clauses X 𝓛 𝓜.mem 𝓡.returns in
    let fn : Fn = inst_fn (args E) code.function in
    let own = RefOf (0 ∷ []) tt (plain (λ _. Owner E)) (λ _. tt) in
    let hs : Stays T.signature.params T.kept = (stay_dropped own T.kept.0, (stay_dropped (plain (λ _. Begin E)) T.kept.1.0, (stay_dropped (plain (λ _. usize)) T.kept.1.1.0, tt))) in
    proved_at 𝓛 T hs c 𝓜 𝓡 (Goes-dropped 𝓛 2 own T.kept.0 (λ κs x f. refl), (Goes-dropped 𝓛 2 (plain (λ _. Begin E)) T.kept.1.0 (λ κs x f. refl), (Goes-dropped 𝓛 2 (plain (λ _. usize)) T.kept.1.1.0 (λ κs x f. refl), tt)))
    (#self (args E)) fn (code.unfolded 𝓤 H 𝓜 𝓡 wired (X, tt)) (λ z are.
    let Post : Val → SProp 𝓤 = (walk_of 𝓛 T hs c).post z in
    let κs = z.0.0 in let qs = z.0.1 in let a = z.0.3 in let us = z.0.4 in
    let rb = a.0.ref_ptr.0 in let ro = a.0.ref_ptr.1 in let d = a.0.now in let start = a.1.0 in let k = a.1.1.0 in
    let Asks : Type 0 = (start.to ≡ d.start) × BoxHolds d.held k in
    let tokens = ‵ (flft κs.0 qs.0) ⊛ ‵ (flft κs.1.0 qs.1.0) ⊛ ‵ ftrue in
    qed 𝓛 ((tokens ⊛ ‵ (owns (types_at T.signature.params κs) a us)) ∷ raw ((c κs a).requires z.1) ∷ []) ∵
    move ! (1 ∷ []) $ use1 𝓛 (raw (fact 𝓤 (κs.1.0 ⊑ X.lives)) ⊛ raw (fact 𝓤 Asks)) (id⊢ 𝓤 _) $ split ! $ drop ! $ heard ! Asks (λ asked.
    split ! $ split ! $ move ! (2 ∷ []) $ fsplit ! $ fsplit ! $ feq_l ! (λ e0. move ! (1 ∷ []) $ fsplit ! $ pointer_had ! start.to us.1.0 (λ e1.
    fsplit ! $ fsplit ! $ feq_l ! (λ e2. flt_l ! (λ fits. keep ! (1 ∷ 2 ∷ 3 ∷ []) $
    regoal ! (λ (vs : List Val). prop (WpFn 𝓤 H 𝓣.C 𝓣.Λ fn vs Post)) (λ i. e0 i ++ (e1 i ++ (e2 i ++ []))) refl $
    enter ! 𝓣.C 𝓣.Λ fn (vptr rb ro ∷ word start.to ∷ vint w64 k ∷ []) Post $
    alloc_all ! (λ l. pass_all ! refl ((tt, tt), (word-Good [] start.to, ((tt, record { fits = fits }), tt))) $
    let En : Env 𝓤 H = env fn.locals l in
    let x = asked.1.0 in let there = held_within d.held k x asked.1.1 in
    -- [what the boxes lend; the token; the other tokens; the locals]
    unhide ! $ fsplit ! $ drop ! $ in_a_block ! d.start (λ p. row_lent (R E) p d.held κs.0) (id⊢ 𝓤 (never 𝓤)) (λ b o is. fsplit ! $ flt_l ! (λ small.
    let s = width E in let at = k * s + o in let Value : Type 0 = get_or d.held k None ≡ Some x in
    let tiny : s < 2 ^ 64 = omega (arith, one_below (length d.held) s (2 ^ 63) (omega arith) small) in
    let far : k * s < 2 ^ 64 = omega (arith, times_below k (length d.held) s (2 ^ 63) (omega arith) small) in
    take_at ! 2 $ rewrite ! 0 (λ (p : Ptr). ‵ (fat full_share (layout (Begin E)) (l 2) 0 (word p))) (asked.0 ∙ is) refl $ give_at ! 2 $
    first ! $ blocks ! $
    sets ! (bin ! (get ! refl) (size_lit ! (record { fits = tiny })) (record { fits = far })) refl (tt, record { fits = far }) $
    sets ! (bin ! (get_in ! (fld ! refl (stop !)) (sub ! 0 refl (whole !))) (get ! refl) tt) refl (tt, tt) $
    use1 𝓛 (‵ (box_lent (R E) b at (get_or d.held k None) κs.0)) (box_seen E 𝓛 b κs.0 d.held k o there) $
    rewrite ! 0 (λ (box : Box E). ‵ (box_lent (R E) b at box κs.0)) asked.1.1 refl $ hide ! $
    sets_last ! (addr ! (through ! refl (stop !))) refl (tt, tt) $
    exec ! 𝓣.C 𝓣.Λ En (after 1 fn.body) (at_ret En Post) $ sets ! (of_opd ! (get ! refl)) refl (tt, tt) $
    feq_i ! (List Val) (vptr b at ∷ []) (vptr b at ∷ []) refl $ fjoin ! $ returns ! (look_at ! 0 refl) $ free_all ! refl $
    -- [the `&`; the token; the other tokens]
    nothing ! $ nothing ! $ fjoin ! $ nothing ! $ fjoin ! $ nothing ! $ fjoin ! $ move ! (2 ∷ 3 ∷ []) $ join ! $
    use0 𝓛 (raw (fact 𝓤 Value)) (fact_i 𝓤 Value (emp 𝓤) asked.1.1) $ move ! (1 ∷ 2 ∷ 3 ∷ 0 ∷ []) $
    by ! (leaves 𝓛 T hs c z (vptr b at) (record { ref_ptr = (b, at); now = x }) (tt, (tt, (tt, tt))) (tt, (tt, (tt, tt)))))))))))))
