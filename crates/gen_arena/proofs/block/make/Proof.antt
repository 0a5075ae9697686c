-- `make` splits a new block into blank boxes, and keeps the permission to deallocate it. Assumes `Logic`.
use mathlib.Core.Path.{◌≡◌, refl, sym, ap, subst}
use Prim.Native.Nat.{ℕ, ◌*◌, ◌<◌, ◌^◌}
use native.Mathlib.Omega.{arith}
use mathlib.Core.Bool.{true, false}
use mathlib.Core.List.{List, [], ◌∷◌, ◌++◌}
use lib.Dec.{lit<}
use lib.ListN.{length, replicate, length-replicate}
use mir.Syntax.{Fn, Body, w64, ty_array}
use mir.MapTy.{inst_fn}
use mir.Val.{Val, vptr, vint, vstruct, vcons, vnil}
use base.Logic.{SProp, emp, id⊢}
use base.Fml.{Incl-trans, ftrue, flft}
use prog.Memory.{align, capped}
use prog.Capped.{capped_fits}
use prog.Wp.{Env, Wp, WpFn, after_seq, at_return}
use contract.BorrowLft.{◌⊑◌}
use contract.Monad.{fact, fact_i}
use contract.Running.{tables}
use types.Kit.{‵, raw, ◌⊛◌, later, await, prop, at_ret, any_q, Post as After, ◌$◌, ◌∵◌, !, qed, by, move, keep, drop, use0, use1, use2, use3, split, split3, join, regoal, fsplit, fsplit3, fjoin, feq_l, flt_i, flt_l}
use types.Match.{live, vrt, in_variant}
use types.Part.{whole, agg}
use types.Run.{stop, fld, lit, of_opd, bin, size_word, align_word, and_then, no_more, first, switches_on, exec, returns, enter}
use types.ByLocal.{alloc_all, pass_all, free_all, look_at, get, get_in, get_tag, sets, sets_last, is, lands_as, env}
use denote.RattleType.{RattleType, owns}
use denote.Builtin.{usize, RefOf}
use denote.Laws.{Is}
use denote.Param.{layout}
use denote.RawPtr.{Ptr, block_ptr}
use denote.Signature.{plain, types_at}
use denote.Steps.{nothing, heard, owned}
use denote.Struct.Declared as Declared
use denote.Struct.Struct.{Struct, Struct-Makes}
use denote.Struct.Tuple.{Tuple}
use denote.Triple.Call.{calls_at}
use denote.Triple.Walked.{Stays, stay_dropped, walk_of, Goes-dropped}
use Rattle.std.specs.Prelude.{None, Ok, Err, IfOk}
use Rattle.std.specs.Vec.Ownership.{FitsInBlock}
use Rattle.core.specs.contracts.result.Result as results
use Rattle.core.specs.contracts.alloc.AllocError as refusals
use Rattle.core.proofs.alloc.Calls.{Al, Answer-typed, Takes, at_takes, Answered, Takes-goes, Takes-gives, answers}
use Rattle.core.proofs.alloc.Shapes.{after, head, arm_body}
use Rattle.core.proofs.atomic.Steps.{fm}
use Rattle.core.proofs.mem.Param.{El, R, elτ}
use Rattle.core.proofs.slots.Leases.{uncapped, block_ty, block_size, block_align, args, P}
use Rattle.std.proofs.raw_atomic.Walks.{proved_at, leaves}
use Rattle.std_alloc.proofs.RawLayout.{as_written}
use Rattle.std_alloc.proofs.RcSteps.{Good, word, word-Good, first_Good}
use Rattle.std_alloc.proofs.ResultValues.{ok_of, err_of}
use Rattle.gen_arena.specs.inner.BlockMemory.{boxes_owned}
use Rattle.gen_arena.proofs.raw.Rows.{width, of_room}
use Rattle.gen_arena.proofs.raw.Walks.{Owner, Begin, Mark, mark, mark_made, pointer_made, trio, trio_made}
use Rattle.gen_arena.specs.contracts.block.Deed as deeds
use Rattle.gen_arena.specs.contracts.block.make.{ended, clauses}
use Rattle.gen_arena.specs.contracts.block.make.Key.{name as #self}
use Rattle.gen_arena.proofs.block.make.Statement.{statement}
use Rattle.gen_arena.proofs.block.make.Code as code

pub make_spec : {M : Type 1} → statement M
make_spec 𝓤 𝓛 𝓜 𝓡 wired X W LX LW g dict glue met glued =
    let H = 𝓛.H in let 𝓣 = tables 𝓤 H 𝓜 𝓡 𝓡.env in
    let E : El = record { row = X; laws = LX } in
    let Z : Al = record { row = W; laws = LW; g = g; d = dict; drops = glue } in
    let T = ended X W g dict glue in let c = clauses X W g dict glue 𝓛 𝓜.mem 𝓡.returns in
    let fn : Fn = inst_fn (args E Z) code.function in
    let Handle = RefOf (0 ∷ []) tt (plain (λ _. P E Z)) (λ _. tt) in
    let Leave : RattleType = deeds.the_row (R E) (P E Z) g in
    let Three : RattleType = Tuple (Begin E ∷ Owner E ∷ Leave ∷ []) in
    let Out : RattleType = results.the_row Three refusals.the_row in
    let hs : Stays T.signature.params T.kept = (stay_dropped Handle T.kept.0, (stay_dropped (plain (λ _. usize)) T.kept.1.0, tt)) in
    proved_at 𝓛 T hs c 𝓜 𝓡 (Goes-dropped 𝓛 3 Handle T.kept.0 (λ κs x f. refl), (Goes-dropped 𝓛 3 (plain (λ _. usize)) T.kept.1.0 (λ κs x f. refl), tt))
    (#self (args E Z)) fn (code.unfolded 𝓤 H 𝓜 𝓡 wired (X, (W, tt)) dict glue) (λ z are.
    let Post : Val → SProp 𝓤 = (walk_of 𝓛 T hs c).post z in
    let κs = z.0.0 in let qs = z.0.1 in let a = z.0.3 in let us = z.0.4 in let κ = κs.0 in let q = qs.0 in
    let rb = a.0.ref_ptr.0 in let ro = a.0.ref_ptr.1 in let heap = a.0.now in let count = a.1.0 in
    let Made : Out.Denot → Type 0 = λ r. IfOk r (λ made. (made.1.start ≡ made.0.to) × (made.1.held ≡ replicate count None) × (made.2.start ≡ made.0.to) × (made.2.count ≡ count) × (made.2.from ≡ heap)) in
    let others = ‵ (flft κs.1.0 qs.1.0) ⊛ ‵ (flft κs.1.1.0 qs.1.1.0) ⊛ ‵ ftrue in
    qed 𝓛 (((‵ (flft κ q) ⊛ others) ⊛ ‵ (owns (types_at T.signature.params κs) a us)) ∷ raw ((c κs a).requires z.1) ∷ []) ∵
    move ! (1 ∷ []) $ use1 𝓛 (raw (fact 𝓤 (κs.1.0 ⊑ X.lives)) ⊛ raw (fact 𝓤 (κs.1.1.0 ⊑ W.lives)) ⊛ raw (fact 𝓤 (FitsInBlock (R E) count))) (id⊢ 𝓤 _) $ split3 ! $ drop ! $
    heard ! (κs.1.1.0 ⊑ W.lives) (λ within. heard ! (FitsInBlock (R E) count) (λ asked.
    split ! $ split ! $ move ! (2 ∷ []) $ fsplit3 ! $ fsplit ! $ feq_l ! (λ e0. move ! (1 ∷ []) $ fsplit ! $ feq_l ! (λ e1. flt_l ! (λ fits. keep ! (0 ∷ 2 ∷ 3 ∷ []) $
    regoal ! (λ (vs : List Val). prop (WpFn 𝓤 H 𝓣.C 𝓣.Λ fn vs Post)) (λ i. e0 i ++ (e1 i ++ [])) refl $
    let s = width E in let al : ℕ = capped (align (elτ E)) in
    let small : count * s < 2 ^ 63 = asked.0 in let octets : count * s < 2 ^ 64 = omega arith in
    enter ! 𝓣.C 𝓣.Λ fn (vptr rb ro ∷ vint w64 count ∷ []) Post $ alloc_all ! (λ l. pass_all ! refl ((tt, tt), ((tt, record { fits = fits }), tt)) $
    let En : Env 𝓤 H = env fn.locals l in
    let both : Body = head (after 2 fn.body) in
    let Then : After 𝓤 H = any_q (after_seq 𝓤 H (Wp 𝓤 H 𝓣.C 𝓣.Λ En (after 3 fn.body) (at_return 𝓤 H En Post)) (at_return 𝓤 H En Post)) in
    let y : (Takes Z 𝓛 𝓜.mem 𝓡.returns).Ghost = at_takes Z 𝓛 𝓜.mem 𝓡.returns κ q (rb, ro) heap (count * s) al (block_ty E count) in
    -- [the `&` to the allocator; its token; the other tokens; the locals]
    sets ! (is ! (bin ! (get ! refl) (size_word !) (record { fits = subst (λ (n : ℕ). n < 2 ^ 64) (sym (uncapped count s octets)) octets })) (ap (vint w64) (uncapped count s octets))) refl (tt, record { fits = octets }) $
    use2 𝓛 (raw ((Takes Z 𝓛 𝓜.mem 𝓡.returns).pre y)) (Takes-goes Z 𝓛 𝓜.mem 𝓡.returns κ q (rb, ro) heap (Incl-trans z.0.2.0 within) (count * s) al (block_ty E count) (block_size E count octets) (block_align E count) octets (capped_fits (align (elτ E)))) $
    calls_at ! (fm 𝓛 𝓜 𝓡) (Takes Z 𝓛 𝓜.mem 𝓡.returns) (met.allocate glue) y (and_then ! (get ! refl) (and_then ! (get ! refl) (and_then ! (align_word !) (no_more !)))) (λ v.
    use1 𝓛 (later (raw (Answered Z 𝓛 𝓜.mem 𝓡.returns heap (block_ty E count) v) ⊛ ‵ (flft κ q))) (Takes-gives Z 𝓛 𝓜.mem 𝓡.returns κ q (rb, ro) heap (count * s) al (block_ty E count) v) $ await ! tt $ split ! $
    answers Z ! 𝓜.mem 𝓡.returns heap (block_ty E count) v
    (λ b o answered.
    let p : Ptr = block_ptr b o in
    let start : (Begin E).Denot = record { to = p } in
    let owner : (Owner E).Denot = record { of = record {}; start = p; held = replicate count None } in
    let leave : Leave.Denot = record { of = record {}; start = p; count = count; from = heap } in
    let all : Val = trio (word p) mark mark in
    let typed : Good (layout Three) all = (tt, ((tt, tt), ((tt, tt), ((tt, tt), tt)))) in
    let ok = first_Good (layout Three) all typed in
    lands_as ! answered refl (Answer-typed true b o) $ first ! $ switches_on ! (get_tag ! (vrt ! refl (fld ! refl (stop !))) (whole !)) $ exec ! 𝓣.C 𝓣.Λ En (arm_body 0 both) Then $
    sets ! (of_opd ! (get_in ! (vrt ! refl (fld ! refl (stop !))) (in_variant ! 0 0 refl refl (whole !)))) refl (tt, tt) $ sets ! (of_opd ! (get ! refl)) refl (tt, tt) $
    sets ! (agg ! (and_then ! (get ! refl) (no_more !))) refl (word-Good [] p) $
    sets ! (agg ! (no_more !)) refl (tt, tt) $ sets ! (agg ! (and_then ! (get ! refl) (no_more !))) refl (tt, (tt, tt)) $
    sets ! (agg ! (no_more !)) refl (tt, tt) $ sets ! (agg ! (and_then ! (get ! refl) (no_more !))) refl (tt, (tt, tt)) $
    sets ! (agg ! (and_then ! (get ! refl) (and_then ! (get ! refl) (and_then ! (get ! refl) (no_more !))))) refl typed $
    sets_last ! (agg ! (and_then ! (lit ! tt) (and_then ! (get ! refl) (no_more !)))) refl ok $
    exec ! 𝓣.C 𝓣.Λ En (after 3 fn.body) (at_ret En Post) $ sets ! (of_opd ! (get ! refl)) refl ok $
    -- The deed of the token, the owner of the room, and the start.
    move ! (1 ∷ []) $ use0 𝓛 (‵ ((Mark E).own_val (tt, tt) (mark ∷ []))) (mark_made E 𝓛) $ fjoin ! $ move ! (1 ∷ []) $
    as_written ! (ty_array (elτ E) count) b o $ use1 𝓛 (‵ (boxes_owned (R E) b o owner.held)) (of_room E 𝓛 b count o) $
    flt_i ! (length owner.held * s) (2 ^ 63) (subst (λ n. n * s < 2 ^ 63) (sym (length-replicate count None)) small) $ fjoin ! $
    use0 𝓛 (‵ ((Mark E).own_val (tt, tt) (mark ∷ []))) (mark_made E 𝓛) $ fjoin ! $ pointer_made ! p $
    use3 𝓛 (‵ (Three.own_val (start, owner, leave) (all ∷ []))) (trio_made 𝓛 (Begin E) (Owner E) Leave start owner leave (word p) mark mark) $
    use1 𝓛 (‵ (Out.own_val (Ok (start, owner, leave)) (live 0 (vcons all vnil) ∷ []))) (ok_of 𝓛 Three refusals.the_row (start, owner, leave) all) $
    returns ! (look_at ! 0 refl) $ free_all ! refl $
    -- [the answer; the token; the other tokens]
    move ! (1 ∷ 2 ∷ []) $ join ! $ nothing ! $ nothing ! $ fjoin ! $ nothing ! $ fjoin ! $
    use0 𝓛 (raw (fact 𝓤 (Made (Ok (start, owner, leave))))) (fact_i 𝓤 (Made (Ok (start, owner, leave))) (emp 𝓤) (refl, refl, refl, refl, refl)) $ move ! (2 ∷ 1 ∷ 3 ∷ 0 ∷ []) $
    by ! (leaves 𝓛 T hs c z (live 0 (vcons all vnil)) (Ok (start, owner, leave)) (tt, (tt, tt)) (tt, (tt, tt))))
    (λ answered.
    let Refusal : RattleType = Struct (Declared.shape refusals.the_type) in
    let none : Val = live 1 (vcons (vstruct vnil) vnil) in
    let refused : Good (layout Out) none = (tt, (record { fits = lit< tt }, (tt, tt))) in
    lands_as ! answered refl (Answer-typed false 0 0) $ first ! $ switches_on ! (get_tag ! (vrt ! refl (fld ! refl (stop !))) (whole !)) $ exec ! 𝓣.C 𝓣.Λ En (arm_body 1 both) Then $
    sets ! (of_opd ! (get_in ! (vrt ! refl (fld ! refl (stop !))) (in_variant ! 1 0 refl refl (whole !)))) refl (tt, tt) $
    sets_last ! (agg ! (and_then ! (lit ! tt) (and_then ! (get ! refl) (no_more !)))) refl refused $
    exec ! 𝓣.C 𝓣.Λ En (after 3 fn.body) (at_ret En Post) $ sets ! (of_opd ! (get ! refl)) refl refused $
    owned ! Refusal (Is Refusal) (Struct-Makes 𝓛 (Declared.shape refusals.the_type) tt) tt (vstruct vnil ∷ []) (tt, (refl, tt)) $
    use1 𝓛 (‵ (Out.own_val (Err (record {})) (none ∷ []))) (err_of 𝓛 Three refusals.the_row (record {}) (vstruct vnil)) $
    returns ! (look_at ! 0 refl) $ free_all ! refl $
    move ! (1 ∷ 2 ∷ []) $ join ! $ nothing ! $ nothing ! $ fjoin ! $ nothing ! $ fjoin ! $
    use0 𝓛 (raw (fact 𝓤 (Made (Err (record {}))))) (fact_i 𝓤 (Made (Err (record {}))) (emp 𝓤) tt) $ move ! (2 ∷ 1 ∷ 3 ∷ 0 ∷ []) $
    by ! (leaves 𝓛 T hs c z none (Err (record {})) (tt, (tt, tt)) (tt, (tt, tt))))))))))))
