-- `Box::into_raw_with_allocator` returns the pointer, its target and the allocator. With what these own they are the hidden value.
use Rattle.std_alloc.specs.contracts.boxed.Box.into_raw_with_allocator as raw_box
use Rattle.std_alloc.proofs.boxed.Box.into_raw_with_allocator.Met.{met}
use Rattle.upc_c.proofs.Walks.{◌≡◌, Some, proved_at, leaves, token, handle_tells, Goes-blank, fm, Bx, R, P, B, τ, word, box_typed, box_out, box_in, box_owns, List, [], ◌∷◌, ◌++◌, refl, sym, ap, subst, ◌∙◌, inst_fn, bare, a_type, dcons, dnil, Val, vstruct, of_list, SProp, ent, id⊢, emp, never, fst∗, ftrue, fsep, flft, fact, fact_i, tables, WpFn, sem, ‵, raw, ◌⊛◌, some, later, ◌$◌, ◌∵◌, !, qed, by, move, keep, drop, use0, use1, join, split, split3, pick, rewrite, fsplit, fjoin, fpick, feq_l, suffices, await, whole, sub, agg, stop, fld, no_more, and_then, of_opd, returns, enter, alloc_all, pass_all, free_all, look_at, get, get_in, sets, lands_as, no, bounded, RattleType, owns, Ptr, RawPtr, block_ptr, null_ptr, ptr_val, in_a_block, plain, types_at, heard, nothing, only, Tuple, calls_at, triple_of, Stays, stay_dropped, walk_of}
use Rattle.upc_c.specs.contracts.hidden.Hidden.{the_row}
use Rattle.upc_c.specs.contracts.hidden.Hidden.of.{ended, clauses}
use Rattle.upc_c.specs.contracts.hidden.Hidden.of.Key.{name as #self}
use Rattle.upc_c.proofs.hidden.Hidden.of.Statement.{statement}
use Rattle.upc_c.proofs.hidden.Hidden.of.Code as code

pub of_spec : {M : Type 1} → statement M
of_spec 𝓤 𝓛 𝓜 𝓡 wired X Z LX LZ g d dd dx allocates drops glue =
    let E : Bx = record { row = X; laws = LX; al = record { row = Z; laws = LZ; g = g; d = d; drops = dd } } in
    let 𝓣 = tables 𝓤 𝓛.H 𝓜 𝓡 𝓡.env in let En = ended X Z g d dd dx in let c = clauses X Z g d dd dx 𝓛 𝓜.mem 𝓡.returns in
    let types = bounded (a_type ∷ a_type ∷ []) (X, (Z, tt)) (dcons d (dcons dd (dcons dx dnil))) in let fn = inst_fn types code.function in
    let hs : Stays En.signature.params En.kept = (stay_dropped (plain (λ _. B E)) no, tt) in
    let call = triple_of 𝓛 (raw_box.signature X Z g d dd dx) (raw_box.spec X Z g d dd dx 𝓛 𝓜.mem 𝓡.returns) in
    let hidden : RattleType = the_row (R E) (P E) g in let pair : RattleType = Tuple (RawPtr ∷ P E ∷ []) in
    proved_at 𝓛 En hs c 𝓜 𝓡 (Goes-blank 𝓛 2 (plain (λ _. B E)) no (λ κs x f. tt), tt) (#self types) fn (code.unfolded 𝓤 𝓛.H 𝓜 𝓡 wired (X, (Z, tt)) d dd dx) (λ z are.
    let κs = z.0.0 in let qs = z.0.1 in let box = z.0.3.0 in
    let Post : Val → SProp 𝓤 = (walk_of 𝓛 En hs c).post z in let Run : List Val → SProp 𝓤 = λ ws. WpFn 𝓤 𝓛.H 𝓣.C 𝓣.Λ fn ws Post in
    let tokens = ‵ (flft κs.0 qs.0) ⊛ ‵ (flft κs.1.0 qs.1.0) ⊛ ‵ ftrue in
    let is_owned : Ptr → base.Fml.Fml = λ p. box_owns (token E.al box.alloc) (R E) p box.value in
    qed 𝓛 ((tokens ⊛ ‵ (owns (types_at En.signature.params κs) z.0.3 z.0.4)) ∷ raw ((c κs z.0.3).requires z.1) ∷ []) ∵ split ! $ move ! (1 ∷ []) $ fsplit ! $
    box_out E ! box z.0.4.0 (λ b o handle at vals fits. box_in E ! box b o box.value at refl $
    let w : Val = word E handle b o in let y : call.Ghost = ((κs, qs, tt, (box, tt), (w ∷ [], tt)), tt) in
    -- the call takes the tokens and the box; what bounds the lifetimes stays
    fjoin ! $ move ! (1 ∷ 0 ∷ []) $ join ! $ join ! $ use1 𝓛 (raw (call.pre y)) (id⊢ 𝓤 _) $
    suffices ! (Run (w ∷ [])) (subst (λ (us : List Val). ent 𝓤 (Run (w ∷ [])) (Run us)) (sym (λ i. vals i ++ [])) (id⊢ 𝓤 (Run (w ∷ [])))) $
    enter ! 𝓣.C 𝓣.Λ fn (w ∷ []) Post $ alloc_all ! (λ l. pass_all ! refl (box_typed E handle b o fits, tt) $
    sets ! (of_opd ! (get ! refl)) refl (box_typed E handle b o fits) $
    calls_at ! (fm 𝓛 𝓜 𝓡) call (met 𝓤 𝓛 𝓜 𝓡 (code.calls-std_alloc::boxed::Box::into_raw_with_allocator 𝓡.env wired) X Z LX LZ g d dd dx allocates drops glue) y (and_then ! (get ! refl) (no_more !)) (λ u.
    use1 𝓛 (later (some (λ (r : Ptr × Z.Denot). (tokens ⊛ ‵ (pair.own_val r (u ∷ []))) ⊛ some (λ (_ : (Unit {0} × (Unit {0} × Unit {0})) × Unit {0}). ‵ (fsep (fsep ftrue (fsep ftrue ftrue)) ftrue) ⊛ (raw (fact 𝓤 (r.1 ≡ box.alloc)) ⊛ ‵ (is_owned r.0)))))) (id⊢ 𝓤 _) $
    await ! tt $ pick ! (λ r. split ! $ move ! (1 ∷ []) $ pick ! (λ _. split3 ! $ drop ! $ heard ! (r.1 ≡ box.alloc) (λ same.
    in_a_block ! r.0 is_owned (fst∗ 𝓤 (never 𝓤) (sem 𝓛 (token E.al box.alloc (bare (τ E)) null_ptr))) (λ b' o' at'.
    -- [what is at the pointer; the tokens with the pair]
    move ! (1 ∷ []) $ split ! $ move ! (1 ∷ []) $ fpick ! (λ fields. fsplit ! $ feq_l ! (λ is_pair. fsplit ! $ feq_l ! (λ is_pointer. fsplit ! $
    rewrite ! 0 (λ (x : Z.Denot). ‵ (Z.own_val x fields.1.0)) same refl $ handle_tells E.al ! box.alloc fields.1.0 (λ handle' is_handle fits'.
    let made : hidden.Denot = record { at = block_ptr b' o'; alloc = box.alloc; value = Some box.value } in
    let w' : Val = word E handle' b' o' in let typed = box_typed E handle' b' o' fits' in
    let is_struct = is_pair ∙ (λ j. vstruct (of_list ((is_pointer ∙ ap (λ (p : Ptr). ptr_val p ∷ []) at') j ++ (is_handle j ++ []))) ∷ []) in
    lands_as ! (ap only is_struct) refl typed $
    sets ! (of_opd ! (get_in ! (fld ! refl (stop !)) (sub ! 0 refl (whole !)))) refl (tt, tt) $
    sets ! (of_opd ! (get_in ! (fld ! refl (stop !)) (sub ! 1 refl (whole !)))) refl fits' $
    sets ! (of_opd ! (get ! refl)) refl fits' $
    sets ! (agg ! (and_then ! (get ! refl) (and_then ! (get ! refl) (no_more !)))) refl typed $
    returns ! (look_at ! 0 refl) $ free_all ! refl $
    -- [what the allocator owns; nothing; the tokens; what is at the pointer]
    move ! (3 ∷ []) $ fsplit ! $ box_in E ! (record { ptr = block_ptr b' o'; alloc = box.alloc; value = box.value }) b' o' box.value refl refl $
    use1 𝓛 (‵ (hidden.own_val made (w' ∷ []))) (id⊢ 𝓤 _) $
    use0 𝓛 (raw (fact 𝓤 (made.value ≡ Some box.value))) (fact_i 𝓤 (made.value ≡ Some box.value) (emp 𝓤) refl) $ nothing ! $ nothing ! $ fjoin ! $
    keep ! (4 ∷ 0 ∷ 2 ∷ 1 ∷ []) $ by ! (leaves 𝓛 En hs c z w' made ((tt, (tt, tt)), tt) (tt, tt))))))))))))))
