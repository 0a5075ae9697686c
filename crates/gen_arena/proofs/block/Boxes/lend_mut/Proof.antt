-- `lend_mut` lends the value of a box, and the boxes get what is written to it. Assumes `Logic`.
use seplogic.Ra.Ura.{Ura}
use mathlib.Core.Path.{◌≡◌, refl, sym, subst, ◌∙◌}
use Prim.Native.Nat.{ℕ, ◌+◌, ◌*◌, ◌<◌, ◌^◌}
use native.Mathlib.Omega.{arith}
use mathlib.Core.List.{List, [], ◌∷◌, ◌++◌}
use base.Fraction.{full_share}
use mir.Syntax.{Fn, named, w64}
use mir.MapTy.{inst_fn}
use mir.Val.{Val, vptr, vint}
use base.Logic.{SProp, ent, sep, emp, never, id⊢}
use base.Fml.{Fml, GName, ftrue, fsep, fat, flft}
use prog.Wp.{Env, WpFn}
use contract.BorrowLft.{◌⊑◌}
use contract.Monad.{fact, fact_i}
use contract.Running.{tables}
use types.Logic.{Logic, sem}
use types.Kit.{‵, raw, ◌⊛◌, some, later, await, pick, group, prop, at_ret, ◌$◌, ◌∵◌, !, qed, by, move, keep, drop, use0, use1, use2, split, split3, join, rewrite, regoal, fsplit, fsplit3, fjoin, fjoin3, fpack, feq_l, flt_i, flt_l, done}
use types.Part.{whole, sub}
use types.Run.{stop, fld, addr, of_opd, bin, size_lit, first, blocks, exec, returns, enter}
use types.ByLocal.{alloc_all, pass_all, free_all, look_at, get, get_in, through, sets, sets_last, take_at, give_at, env}
use denote.RattleType.{owns}
use denote.Builtin.{usize}
use denote.Follow.{follows, Part, lends_Part}
use denote.Memory.{mem, cell_at, part_of}
use denote.Param.{layout}
use denote.RawPtr.{Ptr, block_ptr, in_a_block}
use denote.Ref.{MutBor, MutRef}
use denote.Signature.{plain, types_at, mut_ref_to}
use denote.Steps.{nothing, opens, heard}
use denote.Triple.Walked.{Stays, stay_dropped, walk_of, Goes-dropped, Goes-spent_ref}
use lib.ListN.{length, set, get_or, length-set}
use Rattle.std.specs.Prelude.{Some, None}
use Rattle.core.proofs.alloc.Shapes.{after}
use Rattle.core.proofs.mem.Param.{El, R, args, el_x}
use Rattle.core.proofs.ptr.Rows.{times_below, one_below}
use Rattle.std.proofs.raw_atomic.Walks.{proved_at, leaves}
use Rattle.std_alloc.proofs.RcSteps.{word, word-Good}
use Rattle.gen_arena.specs.inner.Boxes.{BoxHolds}
use Rattle.gen_arena.specs.inner.BoxLends.{with_held}
use Rattle.gen_arena.specs.inner.BlockMemory.{box_owned, boxes_owned, row_owned}
use Rattle.gen_arena.proofs.raw.Rows.{width, Box, held_within, gap, box_out, box_in}
use Rattle.gen_arena.proofs.raw.Walks.{Owner, Begin, Mark, pointer_had}
use Rattle.gen_arena.specs.contracts.block.Boxes.lend_mut.{ended, clauses}
use Rattle.gen_arena.specs.contracts.block.Boxes.lend_mut.Key.{name as #self}
use Rattle.gen_arena.proofs.block.Boxes.lend_mut.Statement.{statement}
use Rattle.gen_arena.proofs.block.Boxes.lend_mut.Code as code

module _ (E : El) {M : Type 1} {𝓤 : Ura M} (𝓛 : Logic 𝓤) (rb ro : ℕ) (d : (Owner E).Denot) (k : ℕ) where
  -- The owner after this value is written.
  abbrev written : el_x E → (Owner E).Denot
  written w = with_held d (set d.held k (Some w))

  module _ (vs : List Val) (b o : ℕ) where
    -- The owner without the value that is lent.
    abbrev Rest : Fml
    Rest = fsep (gap E 𝓛 b o d.held k) (fsep ((Mark E).own_val (tt, tt) vs) (cell_at full_share (Owner E).mir vs rb ro))

    whole_again : d.start ≡ block_ptr b o → k < length d.held → length d.held * width E < 2 ^ 63
        → (w : el_x E) → ent 𝓤 (sep 𝓤 (sem 𝓛 ((mem (R E)).own_at w b (k * width E + o))) (sem 𝓛 Rest)) (sem 𝓛 ((mem (Owner E)).own_at (written w) rb ro))
    unfolding part_of
    whole_again is there small w =
        let left = (written w).held in
        qed 𝓛 (‵ (box_owned (R E) b (k * width E + o) (Some w)) ∷ ‵ Rest ∷ []) ∵ move ! (1 ∷ []) $ fsplit3 ! $ move ! (3 ∷ 0 ∷ []) $
        use2 𝓛 (‵ (boxes_owned (R E) b o left)) (box_in E 𝓛 b d.held k o there (Some w)) $
        flt_i ! (length left * width E) (2 ^ 63) (subst (λ n. n * width E < 2 ^ 63) (sym (length-set d.held k (Some w))) small) $ fjoin ! $
        rewrite ! 0 (λ (p : Ptr). ‵ (row_owned (R E) p left)) (sym is) refl $ move ! (1 ∷ 0 ∷ []) $ fjoin ! $ move ! (1 ∷ 0 ∷ []) $ fjoin ! $
        fpack ! (List Val) (λ us. fsep (cell_at full_share (Owner E).mir us rb ro) ((Owner E).own_val (written w) us)) vs $ done !

pub lend_mut_spec : {M : Type 1} → statement M
lend_mut_spec 𝓤 𝓛 𝓜 𝓡 wired X LX =
    let H = 𝓛.H in let 𝓣 = tables 𝓤 H 𝓜 𝓡 𝓡.env in
    let E : El = record { row = X; laws = LX } in
    let T = ended X in let c = clauses X 𝓛 𝓜.mem 𝓡.returns in
    let fn : Fn = inst_fn (args E) code.function in
    let hs : Stays T.signature.params T.kept = (stay_dropped (mut_ref_to (0 ∷ []) tt (plain (λ _. Owner E))) T.kept.0, (stay_dropped (plain (λ _. Begin E)) T.kept.1.0, (stay_dropped (plain (λ _. usize)) T.kept.1.1.0, tt))) in
    proved_at 𝓛 T hs c 𝓜 𝓡 (Goes-spent_ref 𝓛 2 (0 ∷ []) tt (plain (λ _. Owner E)), (Goes-dropped 𝓛 2 (plain (λ _. Begin E)) T.kept.1.0 (λ κs x f. refl), (Goes-dropped 𝓛 2 (plain (λ _. usize)) T.kept.1.1.0 (λ κs x f. refl), tt)))
    (#self (args E)) fn (code.unfolded 𝓤 H 𝓜 𝓡 wired (X, tt)) (λ z are.
    let Post : Val → SProp 𝓤 = (walk_of 𝓛 T hs c).post z in
    let κs = z.0.0 in let qs = z.0.1 in let a = z.0.3 in let us = z.0.4 in
    let rb = a.0.ref_ptr.0 in let ro = a.0.ref_ptr.1 in let d = a.0.now in let start = a.1.0 in let k = a.1.1.0 in
    let Asks : Type 0 = (start.to ≡ d.start) × BoxHolds d.held k in
    let tokens = ‵ (flft κs.0 qs.0) ⊛ ‵ (flft κs.1.0 qs.1.0) ⊛ ‵ ftrue in
    qed 𝓛 ((tokens ⊛ ‵ (owns (types_at T.signature.params κs) a us)) ∷ raw ((c κs a).requires z.1) ∷ []) ∵
    move ! (1 ∷ []) $ use1 𝓛 (raw (fact 𝓤 (κs.1.0 ⊑ X.lives)) ⊛ raw (fact 𝓤 Asks)) (id⊢ 𝓤 _) $ split ! $ drop ! $ heard ! Asks (λ asked.
    split ! $ split ! $ move ! (2 ∷ []) $ fsplit ! $ fsplit3 ! $ feq_l ! (λ e0. move ! (2 ∷ []) $ fsplit ! $ pointer_had ! start.to us.1.0 (λ e1.
    fsplit ! $ fsplit ! $ feq_l ! (λ e2. flt_l ! (λ fits. keep ! (1 ∷ 2 ∷ 3 ∷ 4 ∷ []) $
    regoal ! (λ (vs : List Val). prop (WpFn 𝓤 H 𝓣.C 𝓣.Λ fn vs Post)) (λ i. e0 i ++ (e1 i ++ (e2 i ++ []))) refl $
    enter ! 𝓣.C 𝓣.Λ fn (vptr rb ro ∷ word start.to ∷ vint w64 k ∷ []) Post $
    alloc_all ! (λ l. pass_all ! refl ((tt, tt), (word-Good [] start.to, ((tt, record { fits = fits }), tt))) $
    let En : Env 𝓤 H = env fn.locals l in
    let x = asked.1.0 in let there = held_within d.held k x asked.1.1 in
    -- [the boxes; the mark; the owner's place, open; the other tokens; the locals]
    opens ! tt (Owner E) {h = d} rb ro (λ vs. move ! (1 ∷ []) $ fsplit ! $ move ! (1 ∷ []) $
    in_a_block ! d.start (λ p. row_owned (R E) p d.held) (id⊢ 𝓤 (never 𝓤)) (λ b o is. fsplit ! $ flt_l ! (λ small.
    let s = width E in let at = k * s + o in let γ = a.0.ghost_name in let new = written E 𝓛 rb ro d k in
    let Value : Type 0 = get_or d.held k None ≡ Some x in
    let tiny : s < 2 ^ 64 = omega (arith, one_below (length d.held) s (2 ^ 63) (omega arith) small) in
    let far : k * s < 2 ^ 64 = omega (arith, times_below k (length d.held) s (2 ^ 63) (omega arith) small) in
    take_at ! 2 $ rewrite ! 0 (λ (p : Ptr). ‵ (fat full_share (layout (Begin E)) (l 2) 0 (word p))) (asked.0 ∙ is) refl $ give_at ! 2 $
    first ! $ blocks ! $
    sets ! (bin ! (get ! refl) (size_lit ! (record { fits = tiny })) (record { fits = far })) refl (tt, record { fits = far }) $
    sets ! (bin ! (get_in ! (fld ! refl (stop !)) (sub ! 0 refl (whole !))) (get ! refl) tt) refl (tt, tt) $
    use1 𝓛 (‵ (box_owned (R E) b at (get_or d.held k None)) ⊛ ‵ (gap E 𝓛 b o d.held k)) (box_out E 𝓛 b d.held k o there) $ split ! $
    rewrite ! 0 (λ (box : Box E). ‵ (box_owned (R E) b at box)) asked.1.1 refl $
    let way = whole_again E 𝓛 rb ro d k vs b o is there small in let rest = sem 𝓛 (Rest E 𝓛 rb ro d k vs b o) in let coded = (Owner E).coded.code d in
    sets_last ! (addr ! (through ! refl (stop !))) refl (tt, tt) $
    exec ! 𝓣.C 𝓣.Λ En (after 1 fn.body) (at_ret En Post) $ sets ! (of_opd ! (get ! refl)) refl (tt, tt) $
    -- [the value; the gap; the mark; the owner's place, open; the other tokens; the locals]
    move ! (1 ∷ 2 ∷ 3 ∷ []) $ fjoin3 ! $ move ! (2 ∷ 3 ∷ 4 ∷ 1 ∷ 0 ∷ []) $ group ! 5 $
    use1 𝓛 (later (some (λ (δ : GName). raw (Part 𝓛 (Owner E) (R E) new (named 0) κs.0 qs.0 rb ro b at γ rest way x δ))))
    (lends_Part 𝓛 (Owner E) (R E) new (named 0) κs.0 qs.0 rb ro b at γ rest way coded coded x) $ await ! tt $ pick ! (λ δ.
    returns ! (look_at ! 0 refl) $ free_all ! refl $
    let lent : MutBor (el_x E) = record { ref_ptr = (b, at); ghost_name = δ; now = x } in
    use1 𝓛 (‵ ((MutRef (named 0) κs.0 (R E)).own_val lent (vptr b at ∷ [])) ⊛ ‵ (flft κs.0 qs.0) ⊛ ‵ (follows (Owner E) (R E) γ δ new)) (id⊢ 𝓤 _) $ split3 ! $
    -- [the `&mut`; the token; what the boxes follow; the other tokens]
    nothing ! $ nothing ! $ fjoin ! $ nothing ! $ fjoin ! $ nothing ! $ fjoin ! $ move ! (2 ∷ 4 ∷ []) $ join ! $
    use0 𝓛 (raw (fact 𝓤 Value)) (fact_i 𝓤 Value (emp 𝓤) asked.1.1) $ move ! (4 ∷ 0 ∷ []) $ join ! $ move ! (1 ∷ 2 ∷ 3 ∷ 0 ∷ []) $
    by ! (leaves 𝓛 T hs c z (vptr b at) lent (tt, (tt, (tt, tt))) (tt, (tt, (tt, tt)))))))))))))))
