-- A line that gives a name, up to what the name means.
use Rattle.std.proofs.Common.{◌≡◌, ◌≢◌, ℕ, ◌+◌, ◌-◌, ◌<◌, true, false, List, [], ◌∷◌, ◌++◌, length, slice_range, Result, Ok, Err, refl, sym, ap, ◌∙◌, arith, append_assoc}
use Rattle.std.proofs.lemmas.List.{append-nil, length-append}
use Rattle.rules_text.specs.Names.{NameRead, letters_of}
use Rattle.rules_text.specs.RuleTokens.{RuleFound, RuleToken}
use Rattle.rules_text.specs.TextOfRules.{is_equal, name_found, name_with_sign, new_name, placed_fault, read_then, fault_in_line}
use Rattle.rules_text.specs.declared.fault.RuleFaultKind.{RuleFaultKind}
use Rattle.rules_text.specs.declared.fault.RuleFaultKind.TheVariants.{BadLine, BadNumber, TooLarge, OutsideCell, AfterOtherwise, Unbalanced, TooDeep, TooLong, NoMemory, UnknownName, NameTaken}
use Rattle.rules_text.specs.declared.lexer.Found.{Found}
use Rattle.rules_text.specs.SeenTokens.{found_seen}
use Rattle.rules_text.specs.inner.SeenFaults.{fault_seen}

-- The letters of a token, whose columns the code counts from 0.
pub letters_same : (line : List ℕ) (found : Found) → letters_of line (found_seen found) ≡ slice_range line found.start found.end
letters_same line found =
    let start : found.start + 1 - 1 ≡ found.start = omega arith in
    let end : found.end + 1 - 1 ≡ found.end = omega arith in
    ap (λ (k : ℕ). slice_range line k (found.end + 1 - 1)) start ∙ ap (λ (k : ℕ). slice_range line found.start k) end

-- A fault with a place.
pub has_place : (line column : ℕ) (kind : RuleFaultKind) → kind ≢ NoMemory → fault_seen line column kind ≡ placed_fault line column kind
has_place line column BadLine other = refl
has_place line column BadNumber other = refl
has_place line column TooLarge other = refl
has_place line column OutsideCell other = refl
has_place line column AfterOtherwise other = refl
has_place line column Unbalanced other = refl
has_place line column TooDeep other = refl
has_place line column TooLong other = refl
has_place line column NoMemory other = absurd (other refl)
has_place line column UnknownName other = refl
has_place line column NameTaken other = refl

module _ (names : List NameRead) (line : List ℕ) (after : ℕ) (tokens : List RuleFound) (name : RuleFound) (rest : List RuleFound) (letters : List ℕ) where
  -- A name that may not be given.
  pub name_bad : (kind : RuleFaultKind) → tokens ≡ name ∷ rest → letters_of line name ≡ letters → new_name names letters name.token ≡ Err kind
      → name_found names line after tokens ≡ Err (fault_in_line name.column kind)
  name_bad kind e same bad =
      ap (name_found names line after) e
      ∙ ap (λ (r : Result (List ℕ) RuleFaultKind). read_then r (λ k. fault_in_line name.column k) (λ found. name_with_sign found name.column name.after rest))
      (ap (λ (found : List ℕ). new_name names found name.token) same ∙ bad)

  -- A new name.
  pub name_good : tokens ≡ name ∷ rest → letters_of line name ≡ letters → new_name names letters name.token ≡ Ok letters
      → name_found names line after tokens ≡ name_with_sign letters name.column name.after rest
  name_good e same good =
      ap (name_found names line after) e
      ∙ ap (λ (r : Result (List ℕ) RuleFaultKind). read_then r (λ k. fault_in_line name.column k) (λ found. name_with_sign found name.column name.after rest))
      (ap (λ (found : List ℕ). new_name names found name.token) same ∙ good)

module _ (letters : List ℕ) (column after : ℕ) (tokens : List RuleFound) where
  -- Nothing comes after a name.
  pub sign_none : tokens ≡ [] → name_with_sign letters column after tokens ≡ Err (fault_in_line after BadLine)
  sign_none e = ap (name_with_sign letters column after) e

  -- Something else than `=` comes after a name.
  pub sign_bad : (sign : RuleFound) (rest : List RuleFound) → tokens ≡ sign ∷ rest → is_equal sign.token ≡ false
      → name_with_sign letters column after tokens ≡ Err (fault_in_line sign.column BadLine)
  sign_bad sign rest e other = ap (name_with_sign letters column after) e ∙ rw other refl

  -- `=` comes after a name.
  pub sign_good : (sign : RuleFound) (rest : List RuleFound) → tokens ≡ sign ∷ rest → is_equal sign.token ≡ true
      → name_with_sign letters column after tokens ≡ Ok (record { letters = letters; column = column; after = sign.after; tokens = rest })
  sign_good sign rest e equal = ap (name_with_sign letters column after) e ∙ rw equal refl

-- Too many tokens of a definition.
pub body_many : (made here rest wanted : List RuleToken) → made ++ (here ++ rest) ≡ wanted → 4096 < length made + length here → 4096 < length wanted
body_many made here rest wanted e many = omega (arith, simp length-append at (ap length e))

-- More tokens of a definition.
pub body_next : (next made here before rest wanted : List RuleToken) → next ≡ made ++ here → before ≡ here ++ rest → made ++ before ≡ wanted → next ++ rest ≡ wanted
body_next next made here before rest wanted e f g =
    ap (λ (t : List RuleToken). t ++ rest) e ∙ append_assoc made here rest ∙ ap (λ (t : List RuleToken). made ++ t) (sym f) ∙ g

-- All tokens of a definition.
pub body_last : (made rest wanted : List RuleToken) → rest ≡ [] → made ++ rest ≡ wanted → made ≡ wanted
body_last made rest wanted e f = sym (append-nil made) ∙ ap (λ (t : List RuleToken). made ++ t) (sym e) ∙ f
