-- `put` writes a value into a blank box. Assumes `Logic`.
use mathlib.Core.Path.{◌≡◌, refl, sym, subst, ◌∙◌}
use Prim.Native.Nat.{◌+◌, ◌*◌, ◌<◌, ◌^◌}
use native.Mathlib.Omega.{arith}
use mathlib.Core.List.{List, [], ◌∷◌, ◌++◌}
use base.Fraction.{full_share}
use mir.Syntax.{Fn, w64}
use mir.MapTy.{inst_fn}
use mir.Val.{Val, vptr, vint, vunit}
use base.Logic.{SProp, emp, never, id⊢}
use base.Fml.{ftrue, fat, flft}
use prog.Wp.{Env, WpFn}
use contract.BorrowLft.{◌⊑◌}
use contract.Monad.{fact, fact_i}
use contract.Running.{tables}
use types.Kit.{‵, raw, ◌⊛◌, prop, at_ret, ◌$◌, ◌∵◌, !, qed, by, move, keep, drop, use0, use1, use2, split, join, rewrite, regoal, fsplit, fsplit3, fjoin, fjoin3, feq_i, feq_l, flt_i, flt_l}
use types.Part.{whole, sub}
use types.Run.{init, stop, fld, unit_lit, of_opd, bin, size_lit, assigns_last, first, blocks, exec, returns, enter}
use types.ByLocal.{alloc_all, pass_all, free_all, look_at, get, get_in, through, sets, take_at, give_at, env}
use denote.RattleType.{owns}
use denote.Builtin.{usize}
use denote.Param.{layout}
use denote.RawPtr.{Ptr, in_a_block}
use denote.Signature.{plain, types_at}
use denote.Steps.{nothing, opens, closes, heard}
use denote.Triple.Walked.{Stays, stay_dropped, stay_ref, walk_of, Goes-dropped, Goes-ref}
use lib.ListN.{length, set, get_or, length-set}
use Rattle.std.specs.Prelude.{Some, None}
use Rattle.core.proofs.alloc.Shapes.{after}
use Rattle.core.proofs.mem.Param.{El, R, args, elτ}
use Rattle.core.proofs.ptr.Rows.{times_below, one_below}
use Rattle.std.proofs.raw_atomic.Walks.{proved_at, leaves}
use Rattle.std_alloc.proofs.RawLayout.{as_written}
use Rattle.std_alloc.proofs.RcSteps.{word, word-Good}
use borrow.Table.OneValue.{part_in}
use Rattle.gen_arena.specs.inner.BlockMemory.{box_owned, boxes_owned, row_owned}
use Rattle.gen_arena.proofs.raw.Rows.{width, Box, gap, box_out, box_in}
use Rattle.gen_arena.proofs.raw.Walks.{Owner, Begin, pointer_had, value_had}
use Rattle.gen_arena.specs.contracts.block.Boxes.put.{ended, clauses}
use Rattle.gen_arena.specs.contracts.block.Boxes.put.Key.{name as #self}
use Rattle.gen_arena.proofs.block.Boxes.put.Statement.{statement}
use Rattle.gen_arena.proofs.block.Boxes.put.Code as code

pub put_spec : {M : Type 1} → statement M
put_spec 𝓤 𝓛 𝓜 𝓡 wired X LX =
    let H = 𝓛.H in let 𝓣 = tables 𝓤 H 𝓜 𝓡 𝓡.env in
    let E : El = record { row = X; laws = LX } in
    let T = ended X in let c = clauses X 𝓛 𝓜.mem 𝓡.returns in
    let fn : Fn = inst_fn (args E) code.function in
    let hs : Stays T.signature.params T.kept = (stay_ref (0 ∷ []) tt (plain (λ _. Owner E)), (stay_dropped (plain (λ _. Begin E)) T.kept.1.0, (stay_dropped (plain (λ _. usize)) T.kept.1.1.0, (stay_dropped (plain (λ _. R E)) T.kept.1.1.1.0, tt)))) in
    proved_at 𝓛 T hs c 𝓜 𝓡 (Goes-ref 𝓛 2 0 tt (plain (λ _. Owner E)), (Goes-dropped 𝓛 2 (plain (λ _. Begin E)) T.kept.1.0 (λ κs x f. refl), (Goes-dropped 𝓛 2 (plain (λ _. usize)) T.kept.1.1.0 (λ κs x f. refl), (Goes-dropped 𝓛 2 (plain (λ _. R E)) T.kept.1.1.1.0 (λ κs x f. refl), tt))))
    (#self (args E)) fn (code.unfolded 𝓤 H 𝓜 𝓡 wired (X, tt)) (λ z are.
    let Post : Val → SProp 𝓤 = (walk_of 𝓛 T hs c).post z in
    let κs = z.0.0 in let qs = z.0.1 in let a = z.0.3 in let us = z.0.4 in
    let rb = a.0.ref_ptr.0 in let ro = a.0.ref_ptr.1 in let d = a.0.now in let start = a.1.0 in let k = a.1.1.0 in let value = a.1.1.1.0 in
    let Asks : Type 0 = (start.to ≡ d.start) × (k < length d.held) × (get_or d.held k None ≡ None) in
    let tokens = ‵ (flft κs.0 qs.0) ⊛ ‵ (flft κs.1.0 qs.1.0) ⊛ ‵ ftrue in
    qed 𝓛 ((tokens ⊛ ‵ (owns (types_at T.signature.params κs) a us)) ∷ raw ((c κs a).requires z.1) ∷ []) ∵
    move ! (1 ∷ []) $ use1 𝓛 (raw (fact 𝓤 (κs.1.0 ⊑ X.lives)) ⊛ raw (fact 𝓤 Asks)) (id⊢ 𝓤 _) $ split ! $ drop ! $ heard ! Asks (λ asked.
    split ! $ split ! $ move ! (2 ∷ []) $ fsplit ! $ fsplit3 ! $ feq_l ! (λ e0. move ! (2 ∷ []) $ fsplit ! $ pointer_had ! start.to us.1.0 (λ e1.
    fsplit ! $ fsplit ! $ feq_l ! (λ e2. flt_l ! (λ fits. fsplit ! $ value_had ! E value us.1.1.1.0 (λ v e3 good. keep ! (2 ∷ 3 ∷ 4 ∷ 0 ∷ 5 ∷ []) $
    regoal ! (λ (vs : List Val). prop (WpFn 𝓤 H 𝓣.C 𝓣.Λ fn vs Post)) (λ i. e0 i ++ (e1 i ++ (e2 i ++ (e3 i ++ [])))) refl $
    enter ! 𝓣.C 𝓣.Λ fn (vptr rb ro ∷ word start.to ∷ vint w64 k ∷ v ∷ []) Post $
    alloc_all ! (λ l. pass_all ! refl ((tt, tt), (word-Good [] start.to, ((tt, record { fits = fits }), (good, tt)))) $
    let En : Env 𝓤 H = env fn.locals l in
    let there = asked.1 in
    -- [the boxes; the mark; the owner's place, open; what the value owns; the other tokens; the locals]
    opens ! tt (Owner E) {h = d} rb ro (λ vs. move ! (1 ∷ []) $ fsplit ! $ move ! (1 ∷ []) $
    in_a_block ! d.start (λ p. row_owned (R E) p d.held) (id⊢ 𝓤 (never 𝓤)) (λ b o is. fsplit ! $ flt_l ! (λ small.
    let s = width E in let at = k * s + o in let left : List (Box E) = set d.held k (Some value) in
    let new : (Owner E).Denot = record { of = d.of; start = d.start; held = left } in
    let After : Type 0 = (new.start ≡ d.start) × (new.held ≡ set d.held k (Some value)) in
    let tiny : s < 2 ^ 64 = omega (arith, one_below (length d.held) s (2 ^ 63) (omega arith) small) in
    let far : k * s < 2 ^ 64 = omega (arith, times_below k (length d.held) s (2 ^ 63) (omega arith) small) in
    take_at ! 2 $ rewrite ! 0 (λ (p : Ptr). ‵ (fat full_share (layout (Begin E)) (l 2) 0 (word p))) (asked.0 ∙ is) refl $ give_at ! 2 $
    first ! $ blocks ! $
    sets ! (bin ! (get ! refl) (size_lit ! (record { fits = tiny })) (record { fits = far })) refl (tt, record { fits = far }) $
    sets ! (bin ! (get_in ! (fld ! refl (stop !)) (sub ! 0 refl (whole !))) (get ! refl) tt) refl (tt, tt) $
    use1 𝓛 (‵ (box_owned (R E) b at (get_or d.held k None)) ⊛ ‵ (gap E 𝓛 b o d.held k)) (box_out E 𝓛 b d.held k o there) $ split ! $
    rewrite ! 0 (λ (box : Box E). ‵ (box_owned (R E) b at box)) asked.2 refl $ as_written ! (elτ E) b at $
    sets ! (of_opd ! (get ! refl)) refl good $ assigns_last ! (of_opd ! (get ! refl)) (through ! refl (stop !)) (init ! 0 refl good) $
    exec ! 𝓣.C 𝓣.Λ En (after 1 fn.body) (at_ret En Post) $ sets ! (of_opd ! (unit_lit !)) refl (tt, tt) $
    -- The box has the value, and goes back among the others.
    move ! (0 ∷ 7 ∷ []) $ use2 𝓛 (‵ (box_owned (R E) b at (Some value))) (part_in 𝓛 (R E) refl full_share value b at v) $
    use2 𝓛 (‵ (boxes_owned (R E) b o left)) (box_in E 𝓛 b d.held k o there (Some value)) $
    flt_i ! (length left * s) (2 ^ 63) (subst (λ n. n * s < 2 ^ 63) (sym (length-set d.held k (Some value))) small) $ fjoin ! $
    rewrite ! 0 (λ (p : Ptr). ‵ (row_owned (R E) p left)) (sym is) refl $ move ! (1 ∷ 0 ∷ []) $ fjoin ! $ move ! (1 ∷ 0 ∷ []) $
    closes ! tt (Owner E) new vs rb ro $ returns ! (look_at ! 0 refl) $ free_all ! refl $
    -- [the owner, in two parts; its token; the other tokens]
    feq_i ! (List Val) us.0 (vptr rb ro ∷ []) e0 $ fjoin3 ! $ nothing ! $ nothing ! $ fjoin ! $ nothing ! $ fjoin ! $ nothing ! $ fjoin ! $ move ! (1 ∷ 0 ∷ []) $ fjoin ! $
    move ! (1 ∷ 2 ∷ []) $ join ! $ feq_i ! (List Val) (vunit ∷ []) (vunit ∷ []) refl $ use0 𝓛 (raw (fact 𝓤 After)) (fact_i 𝓤 After (emp 𝓤) (refl, refl)) $
    move ! (2 ∷ 3 ∷ 1 ∷ 0 ∷ []) $ by ! (leaves 𝓛 T hs c z vunit tt (new, (tt, (tt, (tt, tt)))) (tt, (tt, (tt, (tt, tt))))))))))))))))
