-- Options, tests and lists at a place.
use Rattle.std.proofs.Common.{◌≡◌, ℕ, suc, Bool, true, false, cond, zero, replicate, Option, Some, None, IsSome, is_none, is_some, slice_get, option_map, refl, sym, ap, subst}
use Rattle.std.proofs.lemmas.Option.{same_Some}

pub same_some : {X : Type 0} (x y : X) → Some x ≡ Some y → x ≡ y
same_some x y e = same_Some x y e

-- If a chain of tests passes, its first test and the rest pass.
pub passed_on : {X : Type 0} (test : Bool) (refused : X) (rest : Option X)
    → cond test (Some refused) rest ≡ None → (test ≡ false) × (rest ≡ None)
passed_on true refused rest e = absurd (cc)
passed_on false refused rest e = (refl, e)

pub unmapped : {X Y : Type 0} (f : X → Y) (o : Option X) → option_map f o ≡ None → o ≡ None
unmapped f None e = refl
unmapped f (Some x) e = absurd (cc)

pub is_there : {X : Type 0} (o : Option X) → is_none o ≡ false → (x : X) × (o ≡ Some x)
is_there None e = absurd (cc)
is_there (Some x) e = (x, refl)

pub is_missing : {X : Type 0} (o : Option X) → is_some o ≡ false → o ≡ None
is_missing None e = refl
is_missing (Some x) e = absurd (cc)

pub there_is : {X : Type 0} (o : Option X) → IsSome o → (x : X) × (o ≡ Some x)
there_is None e = absurd (cc)
there_is (Some x) e = (x, refl)

pub IsSome-of : {X : Type 0} (o : Option X) (x : X) → o ≡ Some x → IsSome o
IsSome-of o x e = ap is_some e

-- If each refusal of a chain of tests has a property, so has its result.
pub refused_by : {X : Type 0} (P : X → Type 0) (test : Bool) (refused : X) (rest : Option X) → P refused
    → ((x : X) → rest ≡ Some x → P x) → (x : X) → cond test (Some refused) rest ≡ Some x → P x
refused_by P true refused rest here later x e = subst P (same_some refused x e) here
refused_by P false refused rest here later x e = later x e

pub mapped : {X Y : Type 0} (f : X → Y) (o : Option X) (y : Y) → option_map f o ≡ Some y → (x : X) × (o ≡ Some x) × (y ≡ f x)
mapped f None y e = absurd (cc)
mapped f (Some x) y e = (x, refl, sym (same_some (f x) y e))

pub replicated : {X : Type 0} (n k : ℕ) (x y : X) → slice_get (replicate n x) k ≡ Some y → x ≡ y
replicated zero k x y e = absurd (cc)
replicated (suc n) zero x y e = same_some x y e
replicated (suc n) (suc k) x y e = replicated n k x y e
