-- The keys of the map of labels are equal exactly if the names are.
use Rattle.std.proofs.Common.{Ordering, ◌≡◌, ℕ, Bool, true, false, List, refl, ap, ◌∙◌}
use Rattle.std.specs.Ordering.{is_eq, nat_cmp, ordering_then}
use Rattle.std.specs.declared.cmp.Ordering.TheVariants.{Less, Equal, Greater}
use Rattle.std.specs.Cmp.Lexicographic.{slice_cmp}
use Rattle.std.specs.Str.{bytes_eq}
use Rattle.std.proofs.lemmas.Cmp.{nat_cmp_total, tied_itself}
use Rattle.std.proofs.lemmas.Map.Text.{is_eq-slice_cmp}
use Rattle.std.proofs.lemmas.Slice.Eq.{bytes_eq-Decides}
use Rattle.bpf_asm.specs.inner.LabelPlaces.{compared, tail_number}

apart_then : (one other : Ordering) → is_eq other ≡ false → is_eq (ordering_then one other) ≡ false
apart_then Less other h = refl
apart_then Equal other h = h
apart_then Greater other h = refl

compared_by : (name other : List ℕ) (t : Bool) → bytes_eq name other ≡ t → is_eq (compared (tail_number name) name (tail_number other) other) ≡ t
compared_by name other true e =
    let same : name ≡ other = (bytes_eq-Decides name other).0 e in
    let numbers : nat_cmp (tail_number name) (tail_number other) ≡ Equal =
    ap (λ (n : ℕ). nat_cmp n (tail_number other)) (ap tail_number same) ∙ tied_itself nat_cmp_total (tail_number other) in
    ap (λ (o : Ordering). is_eq (ordering_then o (slice_cmp nat_cmp name other))) numbers ∙ is_eq-slice_cmp name other ∙ e
compared_by name other false e =
    apart_then (nat_cmp (tail_number name) (tail_number other)) (slice_cmp nat_cmp name other) (is_eq-slice_cmp name other ∙ e)

pub compared_is : (name other : List ℕ) → is_eq (compared (tail_number name) name (tail_number other) other) ≡ bytes_eq name other
compared_is name other = compared_by name other (bytes_eq name other) refl
