-- What follows from what is said of the value in an `Ok`.
use Rattle.std.proofs.Common.{◌≡◌, Result, Ok, Err, IfOk, Option, Some, IfSome, option_map, subst}

pub if_ok : {T E : Type 0} (r : Result T E) (P Q : T → Type 0) → ((v : T) → P v → Q v) → IfOk r P → IfOk r Q
if_ok (Ok v) P Q f h = f v h
if_ok (Err e) P Q f h = tt

pub if_some : {T : Type 0} (o : Option T) (v : T) (P : T → Type 0) → o ≡ Some v → IfSome o P → P v
if_some o v P e h = subst (λ (p : Option _). IfSome p P) e h

pub if_mapped : {T U : Type 0} (o : Option T) (v : T) (f : T → U) (P : Option U → Type 0) → o ≡ Some v → P (option_map f o) → P (Some (f v))
if_mapped o v f P e h = subst (λ (p : Option _). P (option_map f p)) e h
