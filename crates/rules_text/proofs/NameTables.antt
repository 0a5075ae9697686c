-- The table of names, and what names may still add.
use Rattle.std.proofs.Common.{◌≡◌, ℕ, zero, suc, ◌-◌, ◌+◌, ◌<◌, Bool, true, false, cond, if◌then◌else◌, List, [], ◌∷◌, ◌++◌, length, map, slice_get, Option, Some, None, IfSome, refl, sym, ap, subst, ◌∙◌, arith}
use Rattle.std.specs.Cmp.Lexicographic.{slice_cmp}
use Rattle.std.specs.Ordering.{is_eq, nat_cmp}
use Rattle.std.specs.BTreeMap.{BTreeMap, UpdatesBy, get_by}
use Rattle.std.specs.Str.{bytes_eq}
use Rattle.std.specs.Global.{Vec}
use Rattle.std.specs.Map.{AreApart, IsKeyTest, KeepsOthers, lookup}
use Rattle.std.proofs.lemmas.List.{length-map, length_push}
use Rattle.std.proofs.lemmas.Map.Text.{is_eq-slice_cmp}
use Rattle.std.proofs.lemmas.Cmp.{eq_by_cmp_equiv, nat_list_cmp_total, nat_list_eq_equiv}
use Rattle.std.proofs.lemmas.Slice.Eq.{bytes_eq-Decides}
use Rattle.rules_text.specs.Names.{name_meaning}
use Rattle.rules_text.specs.RuleTokens.{RuleToken, no_room}
use Rattle.rules_text.specs.declared.lexer.Token.{Token}
use Rattle.rules_text.specs.declared.names.NameTable.{NameTable}
use Rattle.rules_text.specs.declared.names.Name.{Name}
use Rattle.rules_text.specs.SeenTokens.{rule_token_seen}
use Rattle.rules_text.specs.inner.SeenReading.{name_seen, names_seen}
use Rattle.rules_text.specs.inner.SeenNameTable.{IsFoundByLetters, meaning_at, meaning_of, name_index}

-- How many tokens are left, in the words of the definitions.
pub less_seen : (left room : ℕ) (tokens : List Token) → left ≡ room - length tokens → left ≡ room - length (map rule_token_seen tokens)
less_seen left room tokens e = e ∙ ap (λ (k : ℕ). room - k) (sym (length-map tokens rule_token_seen))

-- The names before a new one keep their places.
get_known : (given : List Name) (name : Name) (place : ℕ) → place < length given → slice_get (given ++ name ∷ []) place ≡ slice_get given place
get_known [] name place h = absurd (omega arith)
get_known (first ∷ rest) name zero h = refl
get_known (first ∷ rest) name (suc place) h = get_known rest name place (omega arith)

-- The place of a new name.
get_new : (given : List Name) (name : Name) → slice_get (given ++ name ∷ []) (length given) ≡ Some name
get_new [] name = refl
get_new (first ∷ rest) name = get_new rest name

at_known : (given : List Name) (name : Name) (place : Option ℕ) → IfSome place (λ p. p < length given) → meaning_at (given ++ name ∷ []) place ≡ meaning_at given place
at_known given name None h = refl
at_known given name (Some place) h = ap meaning_of (get_known given name place h)

-- A new name changes nothing of the others.
meaning_known : (given : List Name) (name : Name) (other : List ℕ) → bytes_eq other name.letters.items ≡ false
    → name_meaning (map name_seen (given ++ name ∷ [])) other ≡ name_meaning (map name_seen given) other
meaning_known [] name other e = rw e refl
meaning_known (first ∷ rest) name other e =
    ap (λ (r : Option (List RuleToken)). if bytes_eq other first.letters.items then Some (name_seen first).tokens else r) (meaning_known rest name other e)

-- What a new name means.
meaning_new : (given : List Name) (name : Name) (other : List ℕ) → name_meaning (map name_seen given) other ≡ None → bytes_eq other name.letters.items ≡ true
    → name_meaning (map name_seen (given ++ name ∷ [])) other ≡ Some (name_seen name).tokens
meaning_new [] name other none e = rw e refl
meaning_new (first ∷ rest) name other none e = by (bytes_eq other first.letters.items) none (λ h. meaning_new rest name other h e)
  where
    by : (same : Bool) → (if same then Some (name_seen first).tokens else name_meaning (map name_seen rest) other) ≡ None
        → (name_meaning (map name_seen rest) other ≡ None → name_meaning (map name_seen (rest ++ name ∷ [])) other ≡ Some (name_seen name).tokens)
        → (if same then Some (name_seen first).tokens else name_meaning (map name_seen (rest ++ name ∷ [])) other) ≡ Some (name_seen name).tokens
    by true h deep = cc
    by false h deep = deep h

-- Maps whose keys are octets.
module _ {K : Type 0} (eq : K → K → Bool) (test : K → Bool) where
  others_stay : {X : Type 0} (old new : List (K × X)) → KeepsOthers eq test old new → (other : K → Bool) → IsKeyTest eq other → AreApart test other → lookup other new ≡ lookup other old
  unfolding KeepsOthers
  others_stay old new h = h

apart : (letters other key : List ℕ) → bytes_eq letters other ≡ false → is_eq (slice_cmp nat_cmp letters key) ≡ true → is_eq (slice_cmp nat_cmp other key) ≡ false
apart letters other key n y =
    is_eq-slice_cmp other key ∙ nat_list_eq_equiv.symm other key ∙ sym (nat_list_eq_equiv.congr letters key other (sym (is_eq-slice_cmp letters key) ∙ y)) ∙ n

-- What the map has after an insertion.
pub index_updated : (m n : BTreeMap (Vec ℕ) ℕ) (letters : List ℕ) (w : Option ℕ)
    → UpdatesBy (λ x y. slice_cmp nat_cmp x.items y.items) (λ k. slice_cmp nat_cmp letters k.items) m n w
    → (other : List ℕ) → get_by (λ k. slice_cmp nat_cmp other k.items) n ≡ cond (bytes_eq letters other) w (get_by (λ k. slice_cmp nat_cmp other k.items) m)
index_updated m n letters w h other = by (bytes_eq letters other) refl
  where
    by : (same : Bool) → bytes_eq letters other ≡ same → get_by (λ k. slice_cmp nat_cmp other k.items) n ≡ cond same w (get_by (λ k. slice_cmp nat_cmp other k.items) m)
    by true e = subst (λ (l : List ℕ). get_by (λ k. slice_cmp nat_cmp l k.items) n ≡ w) ((bytes_eq-Decides letters other).0 e) h.1
    by false e = others_stay _ _ _ _ h.3 _ (λ x y. (eq_by_cmp_equiv nat_list_cmp_total).congr other x.items y.items) (λ k. apart letters other k.items e)

-- The table without names.
pub found_first : (table : NameTable) → table.given.items ≡ [] → table.places.entries ≡ [] → map rule_token_seen table.beyond ≡ no_room ∷ [] → IsFoundByLetters table
found_first table given places beyond = record {
  within = λ letters. subst (λ (o : Option ℕ). IfSome o (λ p. p < length table.given.items)) (sym (nowhere letters)) tt;
  meaning = λ letters. ap (meaning_at table.given.items) (nowhere letters) ∙ ap (λ (g : List Name). name_meaning (map name_seen g) letters) (sym given);
  beyond = beyond;
}
  where
    nowhere : (letters : List ℕ) → name_index table letters ≡ None
    nowhere letters = ap (lookup (λ key. is_eq (slice_cmp nat_cmp letters key.items))) places

-- What a name means, found by its place.
pub found_at : (table : NameTable) (letters : List ℕ) (place : Option ℕ) → IsFoundByLetters table → place ≡ name_index table letters
    → meaning_at table.given.items place ≡ name_meaning (names_seen table) letters
found_at table letters place held e = ap (meaning_at table.given.items) e ∙ held.meaning letters

-- The table with one more name.
pub found_with : (table next : NameTable) (name : Name) → IsFoundByLetters table → name_meaning (names_seen table) name.letters.items ≡ None
    → next.given.items ≡ table.given.items ++ name ∷ []
    → ((other : List ℕ) → name_index next other ≡ cond (bytes_eq name.letters.items other) (Some (length table.given.items)) (name_index table other))
    → next.beyond ≡ table.beyond → IsFoundByLetters next
found_with table next name held none given index beyond = record {
  within = λ letters.
      within_by letters (bytes_eq name.letters.items letters) (index letters);
  meaning = λ letters. meaning_by letters (bytes_eq name.letters.items letters) refl (index letters);
  beyond = ap (map rule_token_seen) beyond ∙ held.beyond;
}
  where
    more : length next.given.items ≡ length table.given.items + 1
    more = ap length given ∙ length_push table.given.items name

    onward : (place : Option ℕ) → IfSome place (λ p. p < length table.given.items) → IfSome place (λ p. p < length next.given.items)
    onward None h = tt
    onward (Some place) h = omega (arith, more)

    within_by : (letters : List ℕ) (same : Bool) → name_index next letters ≡ cond same (Some (length table.given.items)) (name_index table letters)
        → IfSome (name_index next letters) (λ p. p < length next.given.items)
    within_by letters true e = subst (λ (o : Option ℕ). IfSome o (λ p. p < length next.given.items)) (sym e) (omega (arith, more))
    within_by letters false e = subst (λ (o : Option ℕ). IfSome o (λ p. p < length next.given.items)) (sym e) (onward (name_index table letters) (held.within letters))

    meaning_by : (letters : List ℕ) (same : Bool) → bytes_eq name.letters.items letters ≡ same
        → name_index next letters ≡ cond same (Some (length table.given.items)) (name_index table letters)
        → meaning_at next.given.items (name_index next letters) ≡ name_meaning (names_seen next) letters
    meaning_by letters true same e =
        let known : name.letters.items ≡ letters = (bytes_eq-Decides name.letters.items letters).0 same in
        let fresh : name_meaning (names_seen table) letters ≡ None = subst (λ (l : List ℕ). name_meaning (names_seen table) l ≡ None) known none in
        ap (meaning_at next.given.items) e
        ∙ ap (λ (g : List Name). meaning_at g (Some (length table.given.items))) given
        ∙ ap meaning_of (get_new table.given.items name)
        ∙ sym (meaning_new table.given.items name letters fresh (nat_list_eq_equiv.symm letters name.letters.items ∙ same))
        ∙ ap (λ (g : List Name). name_meaning (map name_seen g) letters) (sym given)
    meaning_by letters false same e =
        ap (meaning_at next.given.items) e
        ∙ ap (λ (g : List Name). meaning_at g (name_index table letters)) given
        ∙ at_known table.given.items name (name_index table letters) (held.within letters)
        ∙ held.meaning letters
        ∙ sym (meaning_known table.given.items name letters (nat_list_eq_equiv.symm letters name.letters.items ∙ same))
        ∙ ap (λ (g : List Name). name_meaning (map name_seen g) letters) (sym given)
