-- A hidden value that there is owns what `Box::from_raw` requires.
use Rattle.std_alloc.specs.contracts.boxed.Box.from_raw as raw_box
use Rattle.std_alloc.proofs.boxed.Box.from_raw.Met.{met}
use Rattle.upc_c.proofs.Walks.{◌≡◌, ◌≢◌, Option, None, Some, proved_at, leaves, Goes-blank, after, fm, Bx, D, R, P, B, word, box_typed, box_out, box_in, List, [], ◌∷◌, ◌++◌, refl, sym, ap, subst, inst_fn, a_type, dcons, dnil, Val, vptr, has_ty, SProp, ent, id⊢, emp, ftrue, fsep, flft, ◌⊑◌, fact, fact_i, tables, WpFn, ‵, raw, ◌⊛◌, some, later, at_ret, ◌$◌, ◌∵◌, !, qed, by, move, keep, drop, use0, use1, join, split, split3, pick, rewrite, fsplit, fjoin, feq_i, suffices, await, whole, sub, stop, fld, no_more, and_then, of_opd, first, blocks, exec, returns, enter, alloc_all, pass_all, free_all, look_at, get, get_in, sets, lands_last, env, no, bounded, RattleType, owns, block_ptr, plain, types_at, heard, nothing, only, calls_at_last, triple_of, Stays, stay_dropped, walk_of}
use Rattle.std_alloc.proofs.BoxSteps.Form.{box_ty}
use mir.Val.{WT}
use lib.Dec.{T}
use Rattle.upc_c.specs.contracts.hidden.Hidden.{the_row}
use Rattle.upc_c.specs.contracts.hidden.Hidden.into_box.{ended, clauses}
use Rattle.upc_c.specs.contracts.hidden.Hidden.into_box.Key.{name as #self}
use Rattle.upc_c.proofs.hidden.Hidden.into_box.Statement.{statement}
use Rattle.upc_c.proofs.hidden.Hidden.into_box.Code as code

-- The value of an option that isn't None.
known : {X : Type 0} (option : Option X) → option ≢ None → (x : X) × (option ≡ Some x)
known None there = absurd (there refl)
known (Some x) there = (x, refl)

pub into_box_spec : {M : Type 1} → statement M
into_box_spec 𝓤 𝓛 𝓜 𝓡 wired X Z LX LZ g d dd allocates drops =
    let E : Bx = record { row = X; laws = LX; al = record { row = Z; laws = LZ; g = g; d = d; drops = dd } } in
    let 𝓣 = tables 𝓤 𝓛.H 𝓜 𝓡 𝓡.env in let En = ended X Z g d dd in let c = clauses X Z g d dd 𝓛 𝓜.mem 𝓡.returns in
    let types = bounded (a_type ∷ a_type ∷ []) (X, (Z, tt)) (dcons d (dcons dd dnil)) in let fn = inst_fn types code.function in
    let hidden : RattleType = the_row (R E) (P E) g in
    let hs : Stays En.signature.params En.kept = (stay_dropped (plain (λ _. hidden)) no, tt) in
    let call = triple_of 𝓛 (raw_box.signature X Z g d dd) (raw_box.spec X Z g d dd 𝓛 𝓜.mem 𝓡.returns) in
    proved_at 𝓛 En hs c 𝓜 𝓡 (Goes-blank 𝓛 2 (plain (λ _. hidden)) no (λ κs x f. tt), tt) (#self types) fn (code.unfolded 𝓤 𝓛.H 𝓜 𝓡 wired (X, (Z, tt)) d dd) (λ z are.
    let κs = z.0.0 in let qs = z.0.1 in let given = z.0.3.0 in
    let Post : Val → SProp 𝓤 = (walk_of 𝓛 En hs c).post z in let Run : List Val → SProp 𝓤 = λ ws. WpFn 𝓤 𝓛.H 𝓣.C 𝓣.Λ fn ws Post in
    let tokens = ‵ (flft κs.0 qs.0) ⊛ ‵ (flft κs.1.0 qs.1.0) ⊛ ‵ ftrue in
    qed 𝓛 ((tokens ⊛ ‵ (owns (types_at En.signature.params κs) z.0.3 z.0.4)) ∷ raw ((c κs z.0.3).requires z.1) ∷ []) ∵ move ! (1 ∷ []) $
    use1 𝓛 (raw (fact 𝓤 (κs.0 ⊑ X.lives)) ⊛ raw (fact 𝓤 (κs.1.0 ⊑ Z.lives)) ⊛ raw (fact 𝓤 (given.value ≢ None))) (id⊢ 𝓤 _) $ split3 ! $ move ! (2 ∷ []) $ heard ! (given.value ≢ None) (λ there.
    let found = known given.value there in let box : D E = record { ptr = given.at; alloc = given.alloc; value = found.0 } in
    -- [what bounds the lifetimes: two facts; the tokens with the parameters]
    move ! (2 ∷ []) $ split ! $ move ! (1 ∷ []) $ fsplit ! $
    rewrite ! 0 (λ (x : Option X.Denot). ‵ (hidden.own_val (record given { value = x }) z.0.4.0)) found.1 refl $
    use1 𝓛 (‵ ((B E).own_val box z.0.4.0)) (id⊢ 𝓤 _) $
    box_out E ! box z.0.4.0 (λ b o handle at vals fits. fjoin ! $
    -- [what is at the pointer; what the allocator owns; the rest of the parameters; the tokens; what bounds the lifetimes]
    let w : Val = word E handle b o in let typed = box_typed E handle b o fits in let pointer : List Val = vptr b o ∷ [] in
    let y : call.Ghost = ((κs, qs, tt, (given.alloc, (block_ptr b o, tt)), (handle ∷ [], (pointer, tt))), found.0) in
    move ! (4 ∷ 5 ∷ []) $ move ! (1 ∷ 2 ∷ []) $ join ! $ move ! (1 ∷ 0 ∷ []) $ join ! $
    move ! (2 ∷ []) $ feq_i ! (List Val) pointer pointer refl $ fjoin ! $ move ! (2 ∷ 0 ∷ []) $ fjoin ! $ move ! (2 ∷ 0 ∷ []) $ join ! $ join ! $ use1 𝓛 (raw (call.pre y)) (id⊢ 𝓤 _) $
    suffices ! (Run (w ∷ [])) (subst (λ (us : List Val). ent 𝓤 (Run (w ∷ [])) (Run us)) (sym (λ i. vals i ++ [])) (id⊢ 𝓤 (Run (w ∷ [])))) $
    enter ! 𝓣.C 𝓣.Λ fn (w ∷ []) Post $ alloc_all ! (λ l. pass_all ! refl (typed, tt) $
    sets ! (of_opd ! (get_in ! (fld ! refl (stop !)) (sub ! 0 refl (whole !)))) refl (tt, tt) $
    sets ! (of_opd ! (get_in ! (fld ! refl (stop !)) (sub ! 1 refl (whole !)))) refl fits $
    first ! $ blocks ! $ sets ! (of_opd ! (get ! refl)) refl fits $
    calls_at_last ! (fm 𝓛 𝓜 𝓡) call (met 𝓤 𝓛 𝓜 𝓡 (code.calls-std_alloc::boxed::Box::from_raw 𝓡.env wired) X Z LX LZ g d dd allocates drops) y (and_then ! (get ! refl) (and_then ! (get ! refl) (no_more !))) (λ u.
    use1 𝓛 (later (some (λ (r : D E). (tokens ⊛ ‵ ((B E).own_val r (u ∷ []))) ⊛ some (λ (_ : Unit {0} × (Unit {0} × Unit {0})). ‵ (fsep ftrue (fsep ftrue ftrue)) ⊛ (raw (fact 𝓤 (r.value ≡ found.0)) ⊛ raw (fact 𝓤 (r.alloc ≡ given.alloc))))))) (id⊢ 𝓤 _) $
    await ! tt $ pick ! (λ r. split ! $ move ! (1 ∷ []) $ pick ! (λ _. split3 ! $ drop ! $ heard ! (r.value ≡ found.0) (λ same. drop ! $ split ! $ move ! (1 ∷ []) $
    box_out E ! r (u ∷ []) (λ b' o' handle' at' is_box fits'. box_in E ! r b' o' r.value at' refl $ rewrite ! 0 (λ (us : List Val). ‵ ((B E).own_val r us)) (sym is_box) refl $
    let typed' : T (has_ty (box_ty E) u) × WT u = subst (λ (v : Val). T (has_ty (box_ty E) v) × WT v) (sym (ap only is_box)) (box_typed E handle' b' o' fits') in
    let locals = env fn.locals l in
    lands_last ! refl typed' $ exec ! 𝓣.C 𝓣.Λ locals (after 3 fn.body) (at_ret locals Post) $
    sets ! (of_opd ! (get ! refl)) refl typed' $ returns ! (look_at ! 0 refl) $ free_all ! refl $
    use0 𝓛 (raw (fact 𝓤 (given.value ≡ Some r.value))) (fact_i 𝓤 (given.value ≡ Some r.value) (emp 𝓤) (subst (λ (x : X.Denot). given.value ≡ Some x) (sym same) found.1)) $ nothing ! $ nothing ! $ fjoin ! $
    keep ! (3 ∷ 0 ∷ 2 ∷ 1 ∷ []) $ by ! (leaves 𝓛 En hs c z u r ((tt, (tt, tt)), tt) (tt, tt)))))))))))
