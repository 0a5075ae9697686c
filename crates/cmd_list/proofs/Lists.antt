-- What is left of a list after its first elements.
use Rattle.std.proofs.Common.{◌≡◌, ℕ, ◌+◌, List, drop, ap, ◌∙◌}
use Rattle.std.proofs.lemmas.List.{drop-drop}

-- One element more.
pub drop_one : (k : ℕ) (xs some : List (List ℕ)) → some ≡ drop k xs → drop 1 some ≡ drop (k + 1) xs
drop_one k xs some e = ap (λ (rest : List (List ℕ)). drop 1 rest) e ∙ drop-drop 1 k xs

-- Some elements, and then others.
pub drop_further : (k n : ℕ) (xs some : List (List ℕ)) → some ≡ drop k xs → drop n some ≡ drop (k + n) xs
drop_further k n xs some e = ap (λ (rest : List (List ℕ)). drop n rest) e ∙ drop-drop n k xs
