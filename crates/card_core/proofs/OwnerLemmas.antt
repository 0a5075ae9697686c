-- The owner of a line.
use Rattle.std.proofs.Common.{◌≡◌, Bool, true, false, ◌==◌, ◌&&◌, ◌↔◌, refl, sym, ap, subst, ◌∙◌, arith, Option, Some, None, IsTrue}
use Rattle.std.proofs.lemmas.Bool.Decides.{nat_tests}
use Rattle.upc_cell.specs.Connection.{is_same_vc}
use Rattle.upc_cell.proofs.Public.{vc_same, vc_itself}
use Rattle.line_record.specs.declared.owner.Owner.{Owner}
use Rattle.card_core.specs.Sections.{is_owned_by}

owner_is : (one other : Owner) → one.vc ≡ other.vc → one.incarnation ≡ other.incarnation → one ≡ other
owner_is one other vcs incarnations = λ i. record { vc = vcs i; incarnation = incarnations i }

both : (a b : Bool) → (a && b) ≡ true → (a ≡ true) × (b ≡ true)
both true b e = (refl, e)
both false b e = (e, cc)

-- The test decides whether the line has this owner.
pub owned : (owner : Option Owner) (other : Owner) → is_owned_by owner other ≡ true → owner ≡ Some other
owned None other e = cc
owned (Some owner) other e =
    let parts = both (is_same_vc owner.vc other.vc) (owner.incarnation == other.incarnation) e in
    let same : owner.incarnation ≡ other.incarnation = grind (arith, nat_tests, parts.1) in
    ap Some (owner_is owner other (vc_same owner.vc other.vc parts.0) same)

pub owned-itself : (owner : Owner) → is_owned_by (Some owner) owner ≡ true
owned-itself owner = let vcs = vc_itself owner.vc in grind (arith, nat_tests)

pub owned_iff : (owner : Option Owner) (other : Owner) (test : Bool) → test ≡ is_owned_by owner other
    → IsTrue test ↔ (owner ≡ Some other)
owned_iff owner other test e = (
  λ is_true. owned owner other (sym e ∙ is_true),
  λ same. e ∙ (subst (λ o. is_owned_by o other ≡ true) (sym same) (owned-itself other)),
)
