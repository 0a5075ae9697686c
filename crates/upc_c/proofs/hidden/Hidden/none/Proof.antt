-- A null pointer owns nothing.
use Rattle.upc_c.proofs.Walks.{◌≡◌, None, proved_at, leaves, handle_tells, Goes-blank, and_tt, Bx, R, P, List, [], ◌∷◌, ◌++◌, refl, sym, subst, lit<, inst_fn, a_type, dcons, dnil, Val, vstruct, vcons, vnil, has_ty, SProp, ent, id⊢, emp, ftrue, flft, fact, fact_i, tables, WpFn, ‵, raw, ◌⊛◌, ◌$◌, ◌∵◌, !, qed, by, move, keep, use0, split, fsplit, fjoin, fpack, feq_i, suffices, agg, no_more, and_then, of_opd, lit, returns, enter, alloc_all, pass_all, free_all, look_at, get, sets, no, layout, bounded, RattleType, Valss, owns, null_ptr, ptr_val, plain, types_at, nothing, within, shape, to, Stays, stay_dropped, walk_of}
use Rattle.upc_c.specs.contracts.hidden.Hidden as Hidden
use Rattle.upc_c.specs.contracts.hidden.Hidden.none.{ended, clauses}
use Rattle.upc_c.specs.contracts.hidden.Hidden.none.Key.{name as #self}
use Rattle.upc_c.proofs.hidden.Hidden.none.Statement.{statement}
use Rattle.upc_c.proofs.hidden.Hidden.none.Code as code

pub none_spec : {M : Type 1} → statement M
none_spec 𝓤 𝓛 𝓜 𝓡 wired X Z LX LZ g d dd allocates drops =
    let E : Bx = record { row = X; laws = LX; al = record { row = Z; laws = LZ; g = g; d = d; drops = dd } } in
    let 𝓣 = tables 𝓤 𝓛.H 𝓜 𝓡 𝓡.env in let En = ended X Z g d dd in let c = clauses X Z g d dd 𝓛 𝓜.mem 𝓡.returns in
    let types = bounded (a_type ∷ a_type ∷ []) (X, (Z, tt)) (dcons d (dcons dd dnil)) in let fn = inst_fn types code.function in
    let hidden : RattleType = Hidden.the_row (R E) (P E) g in let the_type = Hidden.the_type (R E) (P E) g in
    let hs : Stays En.signature.params En.kept = (stay_dropped (plain (λ _. P E)) no, tt) in
    proved_at 𝓛 En hs c 𝓜 𝓡 (Goes-blank 𝓛 2 (plain (λ _. P E)) no (λ κs x f. tt), tt) (#self types) fn (code.unfolded 𝓤 𝓛.H 𝓜 𝓡 wired (X, (Z, tt)) d dd) (λ z are.
    let κs = z.0.0 in let qs = z.0.1 in
    let Post : Val → SProp 𝓤 = (walk_of 𝓛 En hs c).post z in let Run : List Val → SProp 𝓤 = λ ws. WpFn 𝓤 𝓛.H 𝓣.C 𝓣.Λ fn ws Post in
    let tokens = ‵ (flft κs.0 qs.0) ⊛ ‵ (flft κs.1.0 qs.1.0) ⊛ ‵ ftrue in
    let alloc = z.0.3.0 in let made : hidden.Denot = record { at = null_ptr; alloc = alloc; value = None } in
    qed 𝓛 ((tokens ⊛ ‵ (owns (types_at En.signature.params κs) z.0.3 z.0.4)) ∷ raw ((c κs z.0.3).requires z.1) ∷ []) ∵ split ! $ move ! (1 ∷ []) $ fsplit ! $
    handle_tells E.al ! alloc z.0.4.0 (λ handle vals fits.
    -- [what the allocator owns; the rest of the parameters; the tokens; what bounds the lifetimes]
    let pointer : List Val = ptr_val null_ptr ∷ [] in let w : Val = vstruct (vcons (ptr_val null_ptr) (vcons handle vnil)) in
    suffices ! (Run (handle ∷ [])) (subst (λ (us : List Val). ent 𝓤 (Run (handle ∷ [])) (Run us)) (sym (λ i. vals i ++ [])) (id⊢ 𝓤 (Run (handle ∷ [])))) $
    enter ! 𝓣.C 𝓣.Λ fn (handle ∷ []) Post $ alloc_all ! (λ l. pass_all ! refl (fits, tt) $
    sets ! (of_opd ! (get ! refl)) refl fits $
    sets ! (agg ! (and_then ! (lit ! tt) (and_then ! (get ! refl) (no_more !)))) refl (and_tt (has_ty (layout Z) handle) fits.0, (record { fits = lit< tt }, (fits.1, tt))) $
    returns ! (look_at ! 0 refl) $ free_all ! refl $
    -- the two fields, then the struct, which owns nothing more
    nothing ! $ nothing ! $ move ! (2 ∷ 0 ∷ []) $ fjoin ! $ feq_i ! (List Val) pointer pointer refl $ fjoin ! $ feq_i ! (List Val) (w ∷ []) (w ∷ []) refl $ fjoin ! $
    fpack ! (Valss (shape the_type).fields) (within (shape the_type) (to the_type made) (w ∷ [])) (pointer, (handle ∷ [], tt)) $ fjoin ! $
    use0 𝓛 (raw (fact 𝓤 (made.value ≡ None))) (fact_i 𝓤 (made.value ≡ None) (emp 𝓤) refl) $ nothing ! $ nothing ! $ fjoin ! $
    keep ! (4 ∷ 0 ∷ 2 ∷ 1 ∷ []) $ by ! (leaves 𝓛 En hs c z w made (tt, tt) (tt, tt)))))
