-- Cases of a result, and clauses in a known case.
use Rattle.std.proofs.Common.{◌≡◌, refl, subst, Result, Ok, Err, IfOk, IfErr, OnErr}

pub by_result : {A : Type 0} {E : Type 0} (P : Result A E → Type 0) (result : Result A E)
    → ((value : A) → result ≡ Ok value → P (Ok value)) → ((fault : E) → result ≡ Err fault → P (Err fault)) → P result
by_result P (Ok value) done refused = done value refl
by_result P (Err fault) done refused = refused fault refl

pub where_ok : {A : Type 0} {E : Type 0} (P : A → Type 0) (result : Result A E) (value : A) → result ≡ Ok value → IfOk result P → P value
where_ok P result value is holds = subst (λ r. IfOk r P) is holds

pub where_err : {A : Type 0} {E : Type 0} (P : E → Type 0) (result : Result A E) (fault : E) → result ≡ Err fault → IfErr result P → P fault
where_err P result fault is holds = subst (λ r. IfErr r P) is holds

pub on_err : {A : Type 0} {E : Type 0} (P : Type 0) (result : Result A E) (fault : E) → result ≡ Err fault → OnErr result P → P
on_err P result fault is holds = subst (λ r. OnErr r P) is holds
