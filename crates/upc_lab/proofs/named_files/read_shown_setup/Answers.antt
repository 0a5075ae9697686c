use Rattle.std.proofs.Common.{List, ℕ, Result, Ok, Err, sym, subst, inr}
use Rattle.std.specs.Prelude.{IfErr, IfSome}
use Rattle.upc_lab.specs.NamedFiles.{IsGivenAs, IsUnreadableSetup, IsUnreadableShown}
use Rattle.upc_lab.proofs.named_files.read_shown_setup.Goals as goal

-- What holds of an error holds in a weaker form.
weaker : {A : Type 0} {E : Type 0} (P : E → Type 0) (Q : E → Type 0) (result : Result A E) → ((error : E) → P error → Q error) → IfErr result P → IfErr result Q
weaker P Q (Ok value) so holds = tt
weaker P Q (Err error) so holds = so error holds

pub returns-in-Ok-Some-clause-unreadable : goal.returns-in-Ok-Some-clause-unreadable
returns-in-Ok-Some-clause-unreadable g c =
    let found : IsGivenAs c.in-Ok-Some.name.items c.args.shown.now =
    subst (λ found. IfSome found (λ name. IsGivenAs name.items c.args.shown.now)) c.in-Ok-Some.field-0-is c.in-Ok-Some.ensures in
    let given : IsGivenAs c.deref.result.now c.args.shown.now =
    subst (λ (name : List ℕ). IsGivenAs name c.args.shown.now) (sym c.deref.ensures.value) found in
    weaker (IsUnreadableSetup c.deref.result.now) (IsUnreadableShown c.args.shown.now) c.read_setup.result
    (λ unreadable is. inr (c.deref.result.now, given, is)) c.read_setup.ensures.unreadable
