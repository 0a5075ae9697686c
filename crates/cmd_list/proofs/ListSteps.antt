-- What one instruction adds to a listing with octets.
use Rattle.std.proofs.Common.{◌≡◌, ℕ, ◌+◌, ◌<◌, ◌≤◌, List, [], ◌++◌, length, drop, get_or, sym, ap, ◌∙◌, arith, append_assoc, append-nil}
use Rattle.std.proofs.lemmas.List.{drop_all, drop_more, get_or-drop}
use Rattle.bpf_code.specs.declared.instr.Instr.{Instr}
use Rattle.cmd_list.specs.Comments.{commented}
use Rattle.cmd_list.specs.ListedProgram.{octet_lines, octets_text}

-- The first of the lines that are left is the line of the place.
pub first_left : (listed some : List (List ℕ)) (at : ℕ) (first : List ℕ) → some ≡ drop at listed → first ≡ get_or some 0 [] → first ≡ get_or listed at []
first_left listed some at first left same =
    let zero_more : at + 0 ≡ at = omega arith in
    same ∙ ap (λ (ls : List (List ℕ)). get_or ls 0 []) left ∙ get_or-drop at listed 0 [] ∙ ap (λ (n : ℕ). get_or listed n []) zero_more

module _ (listed : List (List ℕ)) (code : List Instr) (whole : List ℕ) where
  -- One line more.
  pub printed_more : (at : ℕ) (d : Instr) (answers more first : List ℕ) → at < length code → first ≡ get_or listed at []
      → more ≡ answers ++ commented first (octets_text (get_or code at d))
      → answers ++ octet_lines listed at (drop at code) ≡ whole → more ++ octet_lines listed (at + 1) (drop (at + 1) code) ≡ whole
  unfolding octet_lines
  printed_more at d answers more first within same added printed =
      let here = commented (get_or listed at []) (octets_text (get_or code at d)) in
      let rest = octet_lines listed (at + 1) (drop (at + 1) code) in
      let added_here : more ≡ answers ++ here = added ∙ ap (λ (l : List ℕ). answers ++ commented l (octets_text (get_or code at d))) same in
      let parted : octet_lines listed at (drop at code) ≡ here ++ rest = ap (octet_lines listed at) (drop_more code at d within) in
      ap (λ (ts : List ℕ). ts ++ rest) added_here ∙ append_assoc answers here rest ∙ ap (λ (ts : List ℕ). answers ++ ts) (sym parted) ∙ printed

  -- No line is left.
  pub printed_all : (at : ℕ) (answers : List ℕ) → length code ≤ at → answers ++ octet_lines listed at (drop at code) ≡ whole → answers ≡ whole
  unfolding octet_lines
  printed_all at answers past printed =
      let none : octet_lines listed at (drop at code) ≡ [] = ap (octet_lines listed at) (drop_all at code past) in
      sym (append-nil answers) ∙ ap (λ (ts : List ℕ). answers ++ ts) (sym none) ∙ printed
