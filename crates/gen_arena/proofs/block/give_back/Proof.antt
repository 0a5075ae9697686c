-- `give_back` joins the blank boxes into room for an array, and deallocates it with the deed. Assumes `Logic`.
use mathlib.Core.Path.{◌≡◌, refl, sym, ap, subst, ◌∙◌}
use Prim.Native.Nat.{ℕ, ◌*◌, ◌<◌, ◌^◌}
use native.Mathlib.Omega.{arith}
use mathlib.Core.List.{List, [], ◌∷◌, ◌++◌}
use lib.Dec.{T as So}
use lib.ListN.{replicate, length-replicate}
use mir.Syntax.{Fn, w64, ty_unit, ty_array}
use mir.MapTy.{inst_fn}
use mir.Val.{Val, vptr, vint, vunit, has_ty, WT}
use base.Logic.{SProp, never, id⊢}
use base.Fml.{Incl-trans, ftrue, froom, flft}
use prog.Memory.{align, capped}
use prog.Capped.{capped_fits}
use prog.Wp.{Env, WpFn}
use contract.BorrowLft.{◌⊑◌}
use contract.Monad.{fact}
use contract.Running.{tables}
use types.Kit.{‵, raw, ◌⊛◌, given, later, await, learn, prop, at_ret, ◌$◌, ◌∵◌, !, qed, by, move, keep, drop, use1, split, split3, join, group, rewrite, regoal, fsplit, fsplit3, fjoin, feq_i, feq_l, flt_l}
use types.Part.{whole, sub}
use types.Run.{stop, fld, unit_lit, of_opd, bin, size_word, align_word, and_then, no_more, first, blocks, exec, returns, enter}
use types.ByLocal.{alloc_all, pass_all, free_all, look_at, get, get_in, sets, is, lands_last, env}
use denote.RattleType.{RattleType, owns}
use denote.Builtin.{usize, RefOf}
use denote.RawPtr.{Ptr, ptr_val, in_a_block}
use denote.Signature.{plain, types_at}
use denote.Steps.{nothing, heard}
use denote.Triple.Call.{calls_at_last}
use denote.Triple.Walked.{Stays, stay_dropped, walk_of, Goes-dropped}
use Rattle.std.specs.Prelude.{None}
use Rattle.core.proofs.alloc.Calls.{Al, token, Gives, at_gives, Gives-goes, Gives-Gives, Goes-blank}
use Rattle.core.proofs.alloc.Shapes.{after}
use Rattle.core.proofs.atomic.Steps.{fm}
use Rattle.core.proofs.mem.Param.{El, R, elτ}
use Rattle.core.proofs.slots.Leases.{uncapped, block_ty, block_size, block_align, args, P}
use Rattle.std.proofs.raw_atomic.Walks.{proved_at, leaves}
use Rattle.std_alloc.proofs.RawLayout.{as_raw}
use Rattle.std_alloc.proofs.RcSteps.{word, word-Good}
use Rattle.gen_arena.specs.inner.BlockMemory.{row_owned, way_back}
use Rattle.gen_arena.proofs.raw.Rows.{width, Box, to_room}
use Rattle.gen_arena.proofs.raw.Walks.{Owner, Begin, mark, mark_had, pointer_had}
use Rattle.gen_arena.specs.contracts.block.Deed as deeds
use Rattle.gen_arena.specs.contracts.block.give_back.{ended, clauses}
use Rattle.gen_arena.specs.contracts.block.give_back.Key.{name as #self}
use Rattle.gen_arena.proofs.block.give_back.Statement.{statement}
use Rattle.gen_arena.proofs.block.give_back.Code as code

pub give_back_spec : {M : Type 1} → statement M
give_back_spec 𝓤 𝓛 𝓜 𝓡 wired X W LX LW g dict glue met glued =
    let H = 𝓛.H in let 𝓣 = tables 𝓤 H 𝓜 𝓡 𝓡.env in
    let E : El = record { row = X; laws = LX } in
    let Z : Al = record { row = W; laws = LW; g = g; d = dict; drops = glue } in
    let T = ended X W g dict glue in let c = clauses X W g dict glue 𝓛 𝓜.mem 𝓡.returns in
    let fn : Fn = inst_fn (args E Z) code.function in
    let Handle = RefOf (0 ∷ []) tt (plain (λ _. P E Z)) (λ _. tt) in
    let Leave : RattleType = deeds.the_row (R E) (P E Z) g in
    let hs : Stays T.signature.params T.kept = (stay_dropped Handle T.kept.0, (stay_dropped (plain (λ _. Begin E)) T.kept.1.0, (stay_dropped (plain (λ _. usize)) T.kept.1.1.0, (stay_dropped (plain (λ _. Owner E)) T.kept.1.1.1.0, (stay_dropped (plain (λ _. Leave)) T.kept.1.1.1.1.0, tt))))) in
    proved_at 𝓛 T hs c 𝓜 𝓡 (Goes-dropped 𝓛 3 Handle T.kept.0 (λ κs x f. refl), (Goes-dropped 𝓛 3 (plain (λ _. Begin E)) T.kept.1.0 (λ κs x f. refl), (Goes-dropped 𝓛 3 (plain (λ _. usize)) T.kept.1.1.0 (λ κs x f. refl), (Goes-blank 𝓛 3 (plain (λ _. Owner E)) T.kept.1.1.1.0 (λ κs x f. tt), (Goes-blank 𝓛 3 (plain (λ _. Leave)) T.kept.1.1.1.1.0 (λ κs x f. tt), tt)))))
    (#self (args E Z)) fn (code.unfolded 𝓤 H 𝓜 𝓡 wired (X, (W, tt)) dict glue) (λ z are.
    let Post : Val → SProp 𝓤 = (walk_of 𝓛 T hs c).post z in
    let κs = z.0.0 in let qs = z.0.1 in let a = z.0.3 in let us = z.0.4 in let κ = κs.0 in let q = qs.0 in
    let rb = a.0.ref_ptr.0 in let ro = a.0.ref_ptr.1 in let heap = a.0.now in let start = a.1.0 in let count = a.1.1.0 in let boxes = a.1.1.1.0 in let deed = a.1.1.1.1.0 in
    let Asks : Type 0 = (boxes.start ≡ start.to) × (boxes.held ≡ replicate count None) × (deed.start ≡ start.to) × (deed.count ≡ count) × (deed.from ≡ heap) in
    let others = ‵ (flft κs.1.0 qs.1.0) ⊛ ‵ (flft κs.1.1.0 qs.1.1.0) ⊛ ‵ ftrue in
    qed 𝓛 (((‵ (flft κ q) ⊛ others) ⊛ ‵ (owns (types_at T.signature.params κs) a us)) ∷ raw ((c κs a).requires z.1) ∷ []) ∵
    move ! (1 ∷ []) $ use1 𝓛 (raw (fact 𝓤 (κs.1.0 ⊑ X.lives)) ⊛ raw (fact 𝓤 (κs.1.1.0 ⊑ W.lives)) ⊛ raw (fact 𝓤 Asks)) (id⊢ 𝓤 _) $ split3 ! $ drop ! $
    heard ! (κs.1.1.0 ⊑ W.lives) (λ within. heard ! Asks (λ asked.
    split ! $ split ! $ move ! (2 ∷ []) $ fsplit3 ! $ fsplit ! $ feq_l ! (λ e0. move ! (1 ∷ []) $ pointer_had ! start.to us.1.0 (λ e1.
    move ! (1 ∷ []) $ fsplit3 ! $ fsplit ! $ feq_l ! (λ e2. flt_l ! (λ fits.
    fsplit ! $ mark_had ! E us.1.1.1.0 (λ e3. move ! (1 ∷ []) $ fsplit ! $ fsplit ! $ mark_had ! E us.1.1.1.1.0 (λ e4. keep ! (2 ∷ 0 ∷ 3 ∷ 4 ∷ 5 ∷ []) $
    regoal ! (λ (vs : List Val). prop (WpFn 𝓤 H 𝓣.C 𝓣.Λ fn vs Post)) (λ i. e0 i ++ (e1 i ++ (e2 i ++ (e3 i ++ (e4 i ++ []))))) refl $
    enter ! 𝓣.C 𝓣.Λ fn (vptr rb ro ∷ word start.to ∷ vint w64 count ∷ mark ∷ mark ∷ []) Post $
    alloc_all ! (λ l. pass_all ! refl ((tt, tt), (word-Good [] start.to, ((tt, record { fits = fits }), ((tt, (tt, tt)), ((tt, (tt, tt)), tt))))) $
    let En : Env 𝓤 H = env fn.locals l in
    let s = width E in let al : ℕ = capped (align (elτ E)) in
    -- [the boxes; the deed; the `&` to the allocator; its token; the other tokens; the locals]
    rewrite ! 0 (λ (r : Ptr × List (Box E)). ‵ (row_owned (R E) r.0 r.1)) (λ i. (asked.0 i, asked.1 i)) refl $
    in_a_block ! start.to (λ p. row_owned (R E) p (replicate count None)) (id⊢ 𝓤 (never 𝓤)) (λ b o at. fsplit ! $ flt_l ! (λ bound.
    let small : count * s < 2 ^ 63 = subst (λ n. n * s < 2 ^ 63) (length-replicate count None) bound in let octets : count * s < 2 ^ 64 = omega arith in
    let y : (Gives Z 𝓛 𝓜.mem 𝓡.returns).Ghost = at_gives Z 𝓛 𝓜.mem 𝓡.returns κ q (rb, ro) heap b o (count * s) al (block_ty E count) in
    rewrite ! 1 (λ (d : W.Denot × Ptr × ℕ). ‵ (way_back (R E) (token Z d.0) d.1 d.2)) (λ i. (asked.4 i, (asked.2 ∙ at) i, asked.3 i)) refl $
    use1 𝓛 (‵ (froom (ty_array (elτ E) count) b o)) (to_room E 𝓛 b count o) $ as_raw ! (ty_array (elτ E) count) b o $ first ! $ blocks ! $
    sets ! (is ! (of_opd ! (get_in ! (fld ! refl (stop !)) (sub ! 0 refl (whole !)))) (ap ptr_val at)) refl (tt, tt) $
    sets ! (is ! (bin ! (get ! refl) (size_word !) (record { fits = subst (λ (n : ℕ). n < 2 ^ 64) (sym (uncapped count s octets)) octets })) (ap (vint w64) (uncapped count s octets))) refl (tt, record { fits = octets }) $
    group ! 4 $ use1 𝓛 (raw ((Gives Z 𝓛 𝓜.mem 𝓡.returns).pre y)) (Gives-goes Z 𝓛 𝓜.mem 𝓡.returns κ q (rb, ro) heap (Incl-trans z.0.2.0 within) b o (count * s) al (block_ty E count) (block_size E count octets) (block_align E count) octets (capped_fits (align (elτ E)))) $
    calls_at_last ! (fm 𝓛 𝓜 𝓡) (Gives Z 𝓛 𝓜.mem 𝓡.returns) (met.deallocate glue) y (and_then ! (get ! refl) (and_then ! (get ! refl) (and_then ! (get ! refl) (and_then ! (align_word !) (no_more !))))) (λ v.
    use1 𝓛 (later (given (v ≡ vunit) (‵ (flft κ q)))) (Gives-Gives Z 𝓛 𝓜.mem 𝓡.returns κ q (rb, ro) heap b o (count * s) al (block_ty E count) v) $ await ! tt $ learn ! (λ given_back.
    lands_last ! refl (subst (λ (w : Val). So (has_ty ty_unit w) × WT w) (sym given_back) (tt, tt)) $
    exec ! 𝓣.C 𝓣.Λ En (after 1 fn.body) (at_ret En Post) $ sets ! (of_opd ! (unit_lit !)) refl (tt, tt) $
    returns ! (look_at ! 0 refl) $ free_all ! refl $
    -- [the token; the other tokens]
    join ! $ nothing ! $ nothing ! $ fjoin ! $ nothing ! $ fjoin ! $ nothing ! $ fjoin ! $ nothing ! $ fjoin ! $ nothing ! $ fjoin ! $
    feq_i ! (List Val) (vunit ∷ []) (vunit ∷ []) refl $ nothing ! $ move ! (3 ∷ 2 ∷ 1 ∷ 0 ∷ []) $
    by ! (leaves 𝓛 T hs c z vunit tt (tt, (tt, (tt, (tt, (tt, tt))))) (tt, (tt, (tt, (tt, (tt, tt))))))))))))))))))))
