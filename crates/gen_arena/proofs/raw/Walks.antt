-- The types of the pointer functions, how their values are stored, and steps that their proofs share. Assumes
-- `Logic`.
use mathlib.Core.Path.{◌≡◌, refl, subst}
use Prim.Native.Nat.{ℕ}
use mathlib.Core.List.{List, [], ◌∷◌, ◌++◌}
use seplogic.Ra.Ura.{Ura}
use base.Fraction.{full_share}
use mir.Val.{Val, vstruct, vcons, vnil, of_list}
use base.Logic.{ent, sep, emp}
use base.Fml.{fat}
use types.Logic.{Logic, sem}
use types.Kit.{Item, Goal, Seq, Step, step, ‵, ◌⊛◌, some, ◌$◌, ◌∵◌, !, qed, done, move, drop, use1, pick, split, fsplit, fjoin, fpick, fpack, feq_i, feq_l, rewrite}
use denote.RattleType.{RattleType, Valss}
use denote.Laws.{Is, shows}
use denote.Memory.{part_at}
use denote.RawPtr.{Ptr, RawPtr, ptr_val}
use denote.Shadow.{makes_shadow}
use denote.Steps.{nothing, peeks}
use denote.Struct.Struct.{Shape, Struct, within}
use denote.Struct.Owning.{shape}
use denote.Struct.Declared as Declared
use denote.Struct.Tuple.{Tuple, tuple_type}
use borrow.Table.OneValue.{part_out}
use Rattle.core.proofs.mem.Param.{El, R, elτ, el_x, lawful, one}
use Rattle.std_alloc.proofs.RcSteps.{Good, word}
use Rattle.gen_arena.specs.contracts.block.Boxes as boxes
use Rattle.gen_arena.specs.contracts.block.Start as start

module _ (E : El) where
  abbrev pub Owner : RattleType
  Owner = boxes.the_row (R E)

  abbrev pub Begin : RattleType
  Begin = start.the_row (R E)

  -- The one field of `Boxes`, which has size 0.
  abbrev pub Mark : RattleType
  Mark = Struct (shape (boxes.the_type (R E)))

abbrev pub mark : Val
mark = vstruct (vcons (vstruct vnil) vnil)

-- A struct of one pointer.
abbrev pub of_a_pointer : Shape
of_a_pointer = record { name = []; args = []; types = []; fields = RawPtr ∷ [] }

abbrev pub Pointer : RattleType
Pointer = Struct of_a_pointer

pub mark_made : (E : El) {M : Type 1} {𝓤 : Ura M} (𝓛 : Logic 𝓤) → ent 𝓤 (emp 𝓤) (sem 𝓛 ((Mark E).own_val (tt, tt) (mark ∷ [])))
mark_made E 𝓛 =
    makes_shadow 𝓛 ((Mark E).own_val (tt, tt) (mark ∷ [])) (λ vss. (tt, ((λ uss. (tt, tt)), tt)))
    ((vstruct vnil ∷ [], tt), (refl, ((tt, (refl, tt)), tt)))

-- How a returned triple is stored.
abbrev pub trio : Val → Val → Val → Val
trio u v w = vstruct (vcons u (vcons v (vcons w vnil)))

pub trio_made : {M : Type 1} {𝓤 : Ura M} (𝓛 : Logic 𝓤) (R S T : RattleType) (x : R.Denot) (y : S.Denot) (z : T.Denot) (u v w : Val)
    → ent 𝓤 (sep 𝓤 (sem 𝓛 (R.own_val x (u ∷ []))) (sep 𝓤 (sem 𝓛 (S.own_val y (v ∷ []))) (sem 𝓛 (T.own_val z (w ∷ []))))) (sem 𝓛 ((Tuple (R ∷ S ∷ T ∷ [])).own_val (x, y, z) (trio u v w ∷ [])))
trio_made 𝓛 R S T x y z u v w =
    let parts = Valss (R ∷ S ∷ T ∷ []) in
    qed 𝓛 (‵ (R.own_val x (u ∷ [])) ∷ ‵ (S.own_val y (v ∷ [])) ∷ ‵ (T.own_val z (w ∷ [])) ∷ []) ∵
    nothing ! $ move ! (3 ∷ 0 ∷ []) $ fjoin ! $ move ! (2 ∷ 0 ∷ []) $ fjoin ! $ move ! (1 ∷ 0 ∷ []) $ fjoin ! $
    feq_i ! (List Val) (trio u v w ∷ []) (trio u v w ∷ []) refl $ fjoin ! $
    fpack ! parts (within (Declared.shape (tuple_type (R ∷ S ∷ T ∷ []))) (x, (y, (z, tt))) (trio u v w ∷ [])) (u ∷ [], (v ∷ [], (w ∷ [], tt))) $ done !

module _ {M : Type 1} {𝓤 : Ura M} {𝓛 : Logic 𝓤} {K : Type 0} {Γ : List (Item 𝓤)} {G : Goal 𝓤 𝓛.H} where
  -- How a struct of one pointer is stored and owned.
  pub pointer_had : K → (p : Ptr) (vs : List Val) → (vs ≡ word p ∷ [] → Seq K 𝓛 Γ G) → Seq K 𝓛 (‵ (Pointer.own_val (p, tt) vs) ∷ Γ) G
  pointer_had t p vs k =
      fpick t (λ parts. fsplit t $ feq_l t (λ whole. fsplit t $ feq_l t (λ part. drop t $
      k (subst (λ (ws : List Val). vs ≡ vstruct (of_list (ws ++ [])) ∷ []) part whole))))

  pub pointer_made : K → (p : Ptr) → Step K 𝓛 (‵ (Pointer.own_val (p, tt) (word p ∷ [])) ∷ Γ) G Γ G
  pointer_made t p = step (λ rest.
      nothing t $ feq_i t (List Val) (ptr_val p ∷ []) (ptr_val p ∷ []) refl $ fjoin t $
      feq_i t (List Val) (word p ∷ []) (word p ∷ []) refl $ fjoin t $
      fpack t (Valss (RawPtr ∷ [])) (within of_a_pointer (p, tt) (word p ∷ [])) (ptr_val p ∷ [], tt) $ rest)

  -- How the mark is stored.
  pub mark_had : K → (E : El) (vs : List Val) → (vs ≡ mark ∷ [] → Seq K 𝓛 Γ G) → Seq K 𝓛 (‵ ((Mark E).own_val (tt, tt) vs) ∷ Γ) G
  mark_had t E vs k =
      fpick t (λ parts. fsplit t $ feq_l t (λ whole. fsplit t $ fpick t (λ none. fsplit t $ feq_l t (λ part. drop t $ drop t $
      k (subst (λ (ws : List Val). vs ≡ vstruct (of_list (ws ++ [])) ∷ []) part whole)))))

  -- A value in memory is a machine value of its type and what the value owns.
  pub value_out : K → (E : El) (x : el_x E) (b o : ℕ)
      → ((v : Val) → Good (elτ E) v → Seq K 𝓛 (‵ (fat full_share (elτ E) b o v) ∷ ‵ (E.row.own_val x (v ∷ [])) ∷ Γ) G)
      → Seq K 𝓛 (‵ (part_at (R E) full_share x b o) ∷ Γ) G
  value_out t E x b o k =
      use1 𝓛 (some (λ (v : Val). ‵ (fat full_share (elτ E) b o v) ⊛ ‵ (E.row.own_val x (v ∷ [])))) (part_out 𝓛 (R E) refl full_share x b o) $
      pick t (λ v. split t $ move t (1 ∷ []) $ peeks t (R E) (Is (R E)) (shows 𝓛 (R E)) x (v ∷ []) (λ is. move t (1 ∷ []) $
      k v ((lawful E 𝓛).typed x (v ∷ []) is).0))

  -- An owned value is one machine value of its type and what the value owns.
  pub value_had : K → (E : El) (x : el_x E) (vs : List Val)
      → ((v : Val) → vs ≡ v ∷ [] → Good (elτ E) v → Seq K 𝓛 (‵ (E.row.own_val x (v ∷ [])) ∷ Γ) G)
      → Seq K 𝓛 (‵ (E.row.own_val x vs) ∷ Γ) G
  value_had t E x vs k =
      peeks t (R E) (Is (R E)) (shows 𝓛 (R E)) x vs (λ is.
      let alone = one E vs ((lawful E 𝓛).typed x vs is) in
      rewrite t 0 (λ (us : List Val). ‵ (E.row.own_val x us)) alone.1 refl $ k alone.0 alone.1 alone.2)
