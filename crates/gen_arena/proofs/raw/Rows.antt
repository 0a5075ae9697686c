-- Taking out, putting back and reading one box of a row; room for an array is a row of blank boxes. Assumes `Logic`.
use mathlib.Core.Path.{◌≡◌, subst}
use Prim.Native.Nat.{ℕ, zero, suc, ◌+◌, ◌*◌, ◌<◌}
use native.Mathlib.Omega.{arith}
use native.Mathlib.Nat.{zero-mul, suc-mul}
use mathlib.Core.List.{List, [], ◌∷◌}
use lib.ListN.{length, set, get_or, replicate}
use seplogic.Ra.Ura.{Ura}
use mir.Syntax.{ty_array}
use base.Logic.{ent, sep, via, snd∗, id⊢}
use base.Fml.{Fml, Lft, ftrue, fsep, froom}
use types.Logic.{Logic, sem}
use types.Kit.{‵, ◌⊛◌, ◌$◌, ◌∵◌, !, qed, by, move, keep, use1, split, frame, fsplit, fjoin, done}
use Rattle.std.specs.Prelude.{Option, Some, None}
use Rattle.std.specs.Mem.{type_size}
use Rattle.core.proofs.mem.Param.{El, R, el_x, elτ}
use Rattle.gen_arena.specs.inner.BlockMemory.{box_owned, boxes_owned, box_lent, boxes_lent}

-- The number of a box with a value is below the number of boxes.
pub held_within : {X : Type 0} (boxes : List (Option X)) (k : ℕ) (x : X) → get_or boxes k None ≡ Some x → k < length boxes
held_within [] k x e = cc
held_within (box ∷ later) zero x e = omega arith
held_within (box ∷ later) (suc k) x e = omega (arith, held_within later k x e)

module _ (E : El) where
  -- The size of a box, in octets.
  abbrev pub width : ℕ
  width = type_size (R E)

  abbrev pub Box : Type 0
  Box = Option (el_x E)

module _ (E : El) {M : Type 1} {𝓤 : Ura M} (𝓛 : Logic 𝓤) (b : ℕ) where
  open 𝓛 use {H}

  abbrev s : ℕ
  s = width E

  abbrev box : ℕ → Box E → Fml
  box = box_owned (R E) b

  abbrev row : ℕ → List (Box E) → Fml
  row = boxes_owned (R E) b

  -- The boxes without the one of this number.
  abbrev pub gap : ℕ → List (Box E) → ℕ → Fml
  gap o [] k = ftrue
  gap o (c ∷ later) zero = row (o + s) later
  gap o (c ∷ later) (suc k) = fsep (box o c) (gap (o + s) later k)

  first_at : (o : ℕ) → o ≡ zero * s + o
  first_at o = omega (arith, zero-mul s)

  next_at : (k o : ℕ) → k * s + (o + s) ≡ suc k * s + o
  next_at k o = omega (arith, suc-mul k s)

  pub box_out : (boxes : List (Box E)) (k o : ℕ) → k < length boxes → ent 𝓤 (sem 𝓛 (row o boxes)) (sep 𝓤 (sem 𝓛 (box (k * s + o) (get_or boxes k None))) (sem 𝓛 (gap o boxes k)))
  box_out [] k o lt = absurd (omega arith)
  box_out (c ∷ later) zero o lt =
      let At : ℕ → Type 1 = λ n. ent 𝓤 (sem 𝓛 (row o (c ∷ later))) (sep 𝓤 (sem 𝓛 (box n c)) (sem 𝓛 (row (o + s) later))) in
      subst At (first_at o) (id⊢ 𝓤 _)
  box_out (c ∷ later) (suc k) o lt =
      let At : ℕ → Type 1 = λ n. ent 𝓤 (sem 𝓛 (row o (c ∷ later))) (sep 𝓤 (sem 𝓛 (box n (get_or later k None))) (sem 𝓛 (gap o (c ∷ later) (suc k)))) in
      subst At (next_at k o) (
      qed 𝓛 (‵ (row o (c ∷ later)) ∷ []) ∵ fsplit ! $ move ! (1 ∷ []) $
      use1 𝓛 (‵ (box (k * s + (o + s)) (get_or later k None)) ⊛ ‵ (gap (o + s) later k)) (box_out later k (o + s) (omega arith)) $
      split ! $ move ! (2 ∷ 1 ∷ []) $ fjoin ! $ move ! (1 ∷ []) $ done !
      )

  pub box_in : (boxes : List (Box E)) (k o : ℕ) → k < length boxes → (new : Box E) → ent 𝓤 (sep 𝓤 (sem 𝓛 (box (k * s + o) new)) (sem 𝓛 (gap o boxes k))) (sem 𝓛 (row o (set boxes k new)))
  box_in [] k o lt new = absurd (omega arith)
  box_in (c ∷ later) zero o lt new =
      let At : ℕ → Type 1 = λ n. ent 𝓤 (sep 𝓤 (sem 𝓛 (box n new)) (sem 𝓛 (row (o + s) later))) (sem 𝓛 (row o (new ∷ later))) in
      subst At (first_at o) (id⊢ 𝓤 _)
  box_in (c ∷ later) (suc k) o lt new =
      let At : ℕ → Type 1 = λ n. ent 𝓤 (sep 𝓤 (sem 𝓛 (box n new)) (sem 𝓛 (gap o (c ∷ later) (suc k)))) (sem 𝓛 (row o (c ∷ set later k new))) in
      subst At (next_at k o) (
      qed 𝓛 (‵ (box (k * s + (o + s)) new) ∷ ‵ (gap o (c ∷ later) (suc k)) ∷ []) ∵ move ! (1 ∷ []) $ fsplit ! $ frame ! $ move ! (1 ∷ 0 ∷ []) $
      by ! (box_in later k (o + s) (omega arith) new)
      )

  -- Room for an array of n is a row of n blank boxes.
  pub of_room : (n o : ℕ) → ent 𝓤 (H.room (ty_array (elτ E) n) b o) (sem 𝓛 (row o (replicate n None)))
  of_room zero o = qed 𝓛 (‵ (froom (ty_array (elτ E) 0) b o) ∷ []) ∵ keep ! [] $ done !
  of_room (suc n) o =
      qed 𝓛 (‵ (froom (ty_array (elτ E) (suc n)) b o) ∷ []) ∵
      use1 𝓛 (‵ (froom (elτ E) b o) ⊛ ‵ (froom (ty_array (elτ E) n) b (o + s))) (𝓛.laws.room_uncons (elτ E) n b o) $ split ! $
      use1 𝓛 (‵ (box o None)) (𝓛.laws.room-raw (elτ E) b o) $ frame ! $ by ! (of_room n (o + s))

  pub to_room : (n o : ℕ) → ent 𝓤 (sem 𝓛 (row o (replicate n None))) (H.room (ty_array (elτ E) n) b o)
  to_room zero o = 𝓛.laws.room_nil (elτ E) b o
  to_room (suc n) o =
      qed 𝓛 (‵ (box o None) ∷ ‵ (row (o + s) (replicate n None)) ∷ []) ∵
      use1 𝓛 (‵ (froom (elτ E) b o)) (𝓛.laws.raw-room (elτ E) b o) $ move ! (1 ∷ []) $
      use1 𝓛 (‵ (froom (ty_array (elτ E) n) b (o + s))) (to_room n (o + s)) $ move ! (1 ∷ []) $ by ! (𝓛.laws.room_cons (elτ E) n b o)

  pub box_seen : (κ : Lft) (boxes : List (Box E)) (k o : ℕ) → k < length boxes → ent 𝓤 (sem 𝓛 (boxes_lent (R E) b o boxes κ)) (sem 𝓛 (box_lent (R E) b (k * s + o) (get_or boxes k None) κ))
  box_seen κ [] k o lt = absurd (omega arith)
  box_seen κ (c ∷ later) zero o lt =
      let At : ℕ → Type 1 = λ n. ent 𝓤 (sem 𝓛 (boxes_lent (R E) b o (c ∷ later) κ)) (sem 𝓛 (box_lent (R E) b n c κ)) in
      subst At (first_at o) (qed 𝓛 (‵ (boxes_lent (R E) b o (c ∷ later) κ) ∷ []) ∵ fsplit ! $ keep ! (0 ∷ []) $ done !)
  box_seen κ (c ∷ later) (suc k) o lt =
      let At : ℕ → Type 1 = λ n. ent 𝓤 (sem 𝓛 (boxes_lent (R E) b o (c ∷ later) κ)) (sem 𝓛 (box_lent (R E) b n (get_or later k None) κ)) in
      subst At (next_at k o) (
      via 𝓤 (sem 𝓛 (boxes_lent (R E) b (o + s) later κ)) (snd∗ 𝓤 (sem 𝓛 (box_lent (R E) b o c κ)) (sem 𝓛 (boxes_lent (R E) b (o + s) later κ)))
      (box_seen κ later k (o + s) (omega arith))
      )
