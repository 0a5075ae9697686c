-- The card for C gets the pointer, the allocator and what they own.
use Rattle.card_core.specs.contracts.serial.Core as Core
use Rattle.core.proofs.atomic.Steps.{Ptr-Good}
use Rattle.upc_c.proofs.HiddenWords.{shown, word, told, typed, handle_typed}
use Rattle.upc_c.proofs.Walks.{◌≡◌, proved_at, leaves, RattleType, List, [], ◌∷◌, ◌++◌, refl, sym, subst, Val, SProp, ent, id⊢, emp, ftrue, fact, fact_i, tables, WpFn, ‵, raw, ◌⊛◌, ◌$◌, ◌∵◌, !, qed, by, move, keep, use0, use1, split, rewrite, fsplit, fjoin, suffices, whole, sub, agg, stop, fld, no_more, and_then, of_opd, returns, enter, alloc_all, pass_all, free_all, look_at, get, get_in, sets, yes, owns, plain, types_at, nothing, Stays, stay_dropped, walk_of, Goes-dropped}
use Rattle.upc_c.specs.contracts.hidden.card.HiddenCard.{the_row}
use Rattle.upc_c.specs.contracts.hidden.card.HiddenCard.of.{ended, clauses}
use Rattle.upc_c.specs.contracts.hidden.card.HiddenCard.of.Key.{name as #self}
use Rattle.upc_c.proofs.hidden.card.HiddenCard.of.Statement.{statement}
use Rattle.upc_c.proofs.hidden.card.HiddenCard.of.Code as code

pub of_spec : {M : Type 1} → statement M
of_spec 𝓤 𝓛 𝓜 𝓡 wired =
    let boxed : RattleType = shown Core.the_row in let hidden : RattleType = the_row in
    let 𝓣 = tables 𝓤 𝓛.H 𝓜 𝓡 𝓡.env in let c = clauses 𝓛 𝓜.mem 𝓡.returns in let fn = code.function in
    let hs : Stays ended.signature.params ended.kept = (stay_dropped (plain (λ _. boxed)) yes, tt) in
    proved_at 𝓛 ended hs c 𝓜 𝓡 (Goes-dropped 𝓛 0 (plain (λ _. boxed)) yes (λ κs x f. refl), tt) #self fn (code.unfolded 𝓤 𝓛.H 𝓜 𝓡 wired) (λ z are.
    let Post : Val → SProp 𝓤 = (walk_of 𝓛 ended hs c).post z in let Run : List Val → SProp 𝓤 = λ ws. WpFn 𝓤 𝓛.H 𝓣.C 𝓣.Λ fn ws Post in
    let given = z.0.3.0 in let made : hidden.Denot = record { at = given.at; alloc = given.alloc; core = given.value } in
    let w = word given.at in let is : z.0.4.0 ≡ w ∷ [] = told given.at given.alloc z.0.4.0 are.0.0 in
    qed 𝓛 ((‵ ftrue ⊛ ‵ (owns (types_at ended.signature.params z.0.0) z.0.3 z.0.4)) ∷ raw (emp 𝓤) ∷ []) ∵ split ! $ move ! (1 ∷ []) $ fsplit ! $
    rewrite ! 0 (λ (us : List Val). ‵ (boxed.own_val given us)) is refl $
    -- [what the parameter owns; the rest of the parameters; the tokens; the empty `requires`]
    suffices ! (Run (w ∷ [])) (subst (λ (us : List Val). ent 𝓤 (Run (w ∷ [])) (Run us)) (sym (λ i. is i ++ [])) (id⊢ 𝓤 (Run (w ∷ [])))) $
    enter ! 𝓣.C 𝓣.Λ fn (w ∷ []) Post $ alloc_all ! (λ l. pass_all ! refl (typed given.at, tt) $
    sets ! (of_opd ! (get_in ! (fld ! refl (stop !)) (sub ! 0 refl (whole !)))) refl (Ptr-Good given.at) $
    sets ! (of_opd ! (get_in ! (fld ! refl (stop !)) (sub ! 1 refl (whole !)))) refl handle_typed $
    sets ! (of_opd ! (get ! refl)) refl (Ptr-Good given.at) $
    sets ! (agg ! (and_then ! (get ! refl) (and_then ! (get ! refl) (no_more !)))) refl (typed given.at) $
    returns ! (look_at ! 0 refl) $ free_all ! refl $ use1 𝓛 (‵ (hidden.own_val made (w ∷ []))) (id⊢ 𝓤 _) $
    use0 𝓛 (raw (fact 𝓤 (made.core ≡ given.value))) (fact_i 𝓤 (made.core ≡ given.value) (emp 𝓤) refl) $ nothing ! $ nothing ! $ fjoin ! $
    keep ! (4 ∷ 0 ∷ 2 ∷ 1 ∷ []) $ by ! (leaves 𝓛 ended hs c z w made (tt, tt) (tt, tt))))
