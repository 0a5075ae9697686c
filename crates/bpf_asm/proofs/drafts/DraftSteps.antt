-- The draft of lines, line by line.
use Rattle.std.proofs.Common.{◌≡◌, ◌⊎◌, ℕ, ◌+◌, Bool, true, false, List, [], ◌∷◌, ◌++◌, length, filter, Option, Some, None, refl, sym, ap, ◌∙◌, inl, inr, append_assoc, append-nil}
use Rattle.std.proofs.lemmas.List.{length-map, map-append}
use Rattle.std.proofs.lemmas.List.Elements.{filter-append}
use Rattle.std.specs.Option.{option_to_list}
use Rattle.bpf_asm.specs.Grammar.{SourceLine}
use Rattle.bpf_asm.specs.Labels.{statements_of}
use Rattle.bpf_asm.specs.inner.Seen.{statement_seen}
use Rattle.bpf_asm.specs.StatementSpelling.{Statement}
use Rattle.bpf_asm.specs.declared.unresolved.Unresolved.{Unresolved}
use Rattle.bpf_asm.specs.declared.statement.LentStatement.{LentStatement}
use Rattle.bpf_asm.specs.inner.Drafts.{EachHolds, IsDraft, HoldsAfter, drafted, has_labels, is_unresolved, kept_of, statements_seen, unresolved_of}
use Rattle.bpf_asm.proofs.drafts.Resolving.{statements_more}
use Rattle.bpf_code.specs.declared.instr.Instr.{Instr}

none_apart : {A : Type 0} (front : List A) (x : A) (back : List A) → [] ≡ front ++ x ∷ back → ⊥
none_apart [] x back e = cc
none_apart (y ∷ front) x back e = cc

-- An element of a list with one more at its end is in the list, or is the last.
split_last : {A : Type 0} (all front : List A) (x y : A) (back : List A) → all ++ x ∷ [] ≡ front ++ y ∷ back → ((rest : List A) × (all ≡ front ++ y ∷ rest)) ⊎ ((front ≡ all) × (y ≡ x))
split_last [] [] x y back e = let same : y ≡ x = cc in inr (refl, same)
split_last [] (z ∷ front) x y back e = let rest : [] ≡ front ++ y ∷ back = cc in absurd (none_apart front y back rest)
split_last (a ∷ all) [] x y back e = let same : a ≡ y = cc in inl (all, ap (λ v. v ∷ all) same)
split_last (a ∷ all) (z ∷ front) x y back e =
    let head : a ≡ z = cc in
    let tail : all ++ x ∷ [] ≡ front ++ y ∷ back = cc in
    elim (split_last all front x y back tail) [
      | inl s ↦ inl (s.0, ap (λ vs. a ∷ vs) s.1 ∙ ap (λ v. v ∷ (front ++ y ∷ s.0)) head)
      | inr s ↦ inr (ap (λ v. v ∷ front) (sym head) ∙ ap (λ vs. a ∷ vs) s.0, s.1)
    ]

holds_more : (lines : List SourceLine) (line : SourceLine) (front : List Unresolved) (u : Unresolved) → HoldsAfter lines front u → HoldsAfter (lines ++ line ∷ []) front u
holds_more lines line front u s = record {
  before = s.before;
  here = s.here;
  after = s.after ++ line ∷ [];
  split = ap (λ (ls : List SourceLine). ls ++ line ∷ []) s.split ∙ append_assoc s.before (s.here ∷ s.after) (line ∷ []);
  number = s.number;
  holds = s.holds;
  earlier = s.earlier;
  place = s.place;
}

holds_last : (lines : List SourceLine) (line : SourceLine) (all : List Unresolved) (u : Unresolved) → line.statement ≡ Some (statement_seen u.statement) → u.line ≡ length lines + 1 → u.place ≡ length all → statements_of lines ≡ statements_seen all → HoldsAfter (lines ++ line ∷ []) all u
holds_last lines line all u s n p e = record { before = lines; here = line; after = []; split = refl; number = n; holds = s; earlier = e; place = p }

each_add : (lines : List SourceLine) (line : SourceLine) (all : List Unresolved) (u : Unresolved) → HoldsAfter (lines ++ line ∷ []) all u → EachHolds lines all → EachHolds (lines ++ line ∷ []) (all ++ u ∷ [])
each_add lines line all u last each = λ front v back e.
    elim (split_last all front u v back e) [
      | inl s ↦ holds_more lines line front v (each front v s.0 s.1)
      | inr s ↦ rw (s.0, s.1) last
    ]

-- No lines.
pub draft_empty : IsDraft [] [] []
unfolding statements_of
draft_empty = record { all = []; statements = refl; each = λ front u back e. absurd (none_apart front u back e); forms = refl; labelled = refl }

-- A line without an instruction.
pub draft_skip : (lines : List SourceLine) (line : SourceLine) (code : List Instr) (unresolved : List Unresolved) → line.statement ≡ None → IsDraft lines code unresolved → IsDraft (lines ++ line ∷ []) code unresolved
draft_skip lines line code unresolved e d = record {
  all = d.all;
  statements = statements_more lines line ∙ ap (λ (s : Option Statement). statements_of lines ++ option_to_list s) e ∙ append-nil (statements_of lines) ∙ d.statements;
  each = λ front u back s. holds_more lines line front u (d.each front u back s);
  forms = d.forms;
  labelled = d.labelled;
}

kept_is : (b : Bool) (u : Unresolved) → is_unresolved u ≡ b → kept_of b u ≡ filter is_unresolved (u ∷ [])
kept_is true u e = rw e refl
kept_is false u e = rw e refl

draft_by : (lines : List SourceLine) (line : SourceLine) (code more : List Instr) (unresolved left : List Unresolved) (u : Unresolved) → line.statement ≡ Some (statement_seen u.statement) → u.line ≡ length lines + 1 → u.place ≡ length code → more ≡ code ++ drafted u.statement ∷ [] → left ≡ unresolved ++ kept_of (has_labels u.statement) u → IsDraft lines code unresolved → IsDraft (lines ++ line ∷ []) more left
draft_by lines line code more unresolved left u s n p m l d =
    let place : u.place ≡ length d.all = p ∙ ap length d.forms ∙ length-map d.all (λ (v : Unresolved). drafted v.statement) in
    record {
      all = d.all ++ u ∷ [];
      statements = statements_more lines line ∙ ap (λ (t : Option Statement). statements_of lines ++ option_to_list t) s ∙ ap (λ (ss : List Statement). ss ++ statement_seen u.statement ∷ []) d.statements ∙ sym (map-append (λ (v : Unresolved). statement_seen v.statement) d.all (u ∷ []));
      each = each_add lines line d.all u (holds_last lines line d.all u s n place d.statements) d.each;
      forms = m ∙ ap (λ (c : List Instr). c ++ drafted u.statement ∷ []) d.forms ∙ sym (map-append (λ (v : Unresolved). drafted v.statement) d.all (u ∷ []));
      labelled = l ∙ ap (λ (us : List Unresolved). us ++ kept_of (has_labels u.statement) u) d.labelled ∙ ap (λ (us : List Unresolved). filter is_unresolved d.all ++ us) (kept_is (has_labels u.statement) u refl) ∙ sym (filter-append is_unresolved d.all (u ∷ []));
    }

-- A line with an instruction.
pub draft_add : (lines : List SourceLine) (line : SourceLine) (code more : List Instr) (unresolved left : List Unresolved) (number : ℕ) (statement : LentStatement) → line.statement ≡ Some (statement_seen statement) → number ≡ length lines + 1 → more ≡ code ++ drafted statement ∷ [] → left ≡ unresolved ++ unresolved_of number (length code) statement → IsDraft lines code unresolved → IsDraft (lines ++ line ∷ []) more left
draft_add lines line code more unresolved left number statement s n m l d =
    draft_by lines line code more unresolved left (record { line = number; place = length code; statement = statement }) s n refl m l d
