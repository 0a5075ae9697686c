-- The labels of a draft are replaced by offsets, one instruction after the other.
use Rattle.std.proofs.Common.{◌≡◌, ℕ, ◌+◌, ◌<◌, Bool, true, false, List, [], ◌∷◌, ◌++◌, length, set, drop, get_or, filter, cond, refl, sym, ap, ◌∙◌, subst, arith, append_assoc, length-append}
use Rattle.std.proofs.lemmas.List.{drop_more, length-map, map-append, set_at}
use Rattle.bpf_asm.specs.Faults.{IsFirstOperandFault, IsStatementFault}
use Rattle.bpf_asm.specs.Grammar.{SourceLine}
use Rattle.bpf_asm.specs.Labels.{statements_of}
use Rattle.bpf_asm.specs.Meaning.{MeanFrom, Means}
use Rattle.bpf_asm.specs.inner.Seen.{statement_seen}
use Rattle.bpf_asm.specs.StatementSpelling.{Statement}
use Rattle.bpf_asm.specs.declared.unresolved.Unresolved.{Unresolved}
use Rattle.bpf_asm.specs.declared.fault.AsmFault.{AsmFault}
use Rattle.bpf_asm.specs.declared.fault.AsmKind.{AsmKind}
use Rattle.bpf_asm.specs.declared.statement.LentStatement.{LentStatement}
use Rattle.bpf_asm.specs.declared.statement.LentStatement.TheVariants.{Plain, Jump as LabelJump, Branch as LabelBranch}
use Rattle.bpf_asm.specs.inner.Drafts.{EachHolds, IsResolvedTo, drafted, first_forms, has_labels, is_unresolved, statements_seen}
use Rattle.bpf_asm.proofs.drafts.Resolving.{mean_have, mean_length, mean_more}
use Rattle.bpf_code.specs.declared.instr.Instr.{Instr}

-- If some element of a list passes a test, the list splits at the first such element.
record FirstKept (back : List Unresolved) (u : Unresolved) (more : List Unresolved) : Type 0 where
  plains : List Unresolved
  rest : List Unresolved
  split : back ≡ plains ++ u ∷ rest
  none : filter is_unresolved plains ≡ []
  labelled : more ≡ filter is_unresolved rest

first_by : (v : Unresolved) (back : List Unresolved) (u : Unresolved) (more : List Unresolved) (b : Bool) → is_unresolved v ≡ b → u ∷ more ≡ cond b (v ∷ filter is_unresolved back) (filter is_unresolved back) → (u ∷ more ≡ filter is_unresolved back → FirstKept back u more) → FirstKept (v ∷ back) u more
first_by v back u more true b e next =
    let same : v ≡ u = cc in
    let rest : more ≡ filter is_unresolved back = cc in
    record { plains = []; rest = back; split = ap (λ w. w ∷ back) same; none = refl; labelled = rest }
first_by v back u more false b e next =
    let f = next e in
    record { plains = v ∷ f.plains; rest = f.rest; split = ap (λ ws. v ∷ ws) f.split; none = rw b f.none; labelled = f.labelled }

first_kept : (back : List Unresolved) (u : Unresolved) (more : List Unresolved) → u ∷ more ≡ filter is_unresolved back → FirstKept back u more
first_kept [] u more e = cc
first_kept (v ∷ back) u more e = first_by v back u more (is_unresolved v) refl e (first_kept back u more)

plain_means : (lines : List SourceLine) (place : ℕ) (statement : LentStatement) → has_labels statement ≡ false → Means lines place (statement_seen statement) (drafted statement)
plain_means lines place (Plain i) e = refl
plain_means lines place (LabelJump target) e = cc
plain_means lines place (LabelBranch test by met unmet) e = cc

plain_parts : (b : Bool) (v : Unresolved) (vs : List Unresolved) → is_unresolved v ≡ b → cond b (v ∷ filter is_unresolved vs) (filter is_unresolved vs) ≡ [] → (is_unresolved v ≡ false) × (filter is_unresolved vs ≡ [])
plain_parts true v vs b e = cc
plain_parts false v vs b e = (b, e)

-- Instructions without labels mean themselves.
plains_mean : (lines : List SourceLine) (place : ℕ) (plains : List Unresolved) → filter is_unresolved plains ≡ [] → MeanFrom lines place (statements_seen plains) (first_forms plains)
plains_mean lines place [] e = refl
plains_mean lines place (v ∷ plains) e =
    let parts = plain_parts (is_unresolved v) v plains refl e in
    (plain_means lines place v.statement parts.0, plains_mean lines (place + 1) plains parts.1)

mean_append : (lines : List SourceLine) (place : ℕ) (ss more : List Statement) (code after : List Instr) → MeanFrom lines place ss code → MeanFrom lines (place + length ss) more after → MeanFrom lines place (ss ++ more) (code ++ after)
mean_append lines place [] more [] after m n = let z : place + 0 ≡ place = omega arith in subst (λ (p : ℕ). MeanFrom lines p more after) z n
mean_append lines place [] more (i ∷ code) after m n = cc
mean_append lines place (s ∷ ss) more [] after m n = absurd m
mean_append lines place (s ∷ ss) more (i ∷ code) after m n =
    let moved : place + length (s ∷ ss) ≡ place + 1 + length ss = omega arith in
    (m.0, mean_append lines (place + 1) ss more code after m.1 (subst (λ (p : ℕ). MeanFrom lines p more after) moved n))

-- Instructions without labels after others.
plains_after : (lines : List SourceLine) (front plains : List Unresolved) (done : List Instr) → filter is_unresolved plains ≡ [] → MeanFrom lines 0 (statements_seen front) done → MeanFrom lines 0 (statements_seen (front ++ plains)) (done ++ first_forms plains)
plains_after lines front plains done none m =
    rw (map-append (λ (v : Unresolved). statement_seen v.statement) front plains)
    (mean_append lines 0 (statements_seen front) (statements_seen plains) done (first_forms plains) m (plains_mean lines (0 + length (statements_seen front)) plains none))

-- The next instruction with labels of a draft that is resolved up to it.
pub record IsNext (lines : List SourceLine) (code : List Instr) (u : Unresolved) (more : List Unresolved) : Type 0 where
  pub front : List Unresolved
  pub rest : List Unresolved
  pub statements : statements_of lines ≡ statements_seen (front ++ u ∷ rest)
  pub each : EachHolds lines (front ++ u ∷ rest)
  pub done : List Instr
  pub means : MeanFrom lines 0 (statements_seen front) done
  pub forms : code ≡ done ++ drafted u.statement ∷ first_forms rest
  pub labelled : more ≡ filter is_unresolved rest
  pub counted : u.place ≡ length done

next_by : (lines : List SourceLine) (code : List Instr) (u : Unresolved) (more : List Unresolved) (r : IsResolvedTo lines code (u ∷ more)) → FirstKept r.back u more → IsNext lines code u more
next_by lines code u more r f =
    let all : r.front ++ r.back ≡ (r.front ++ f.plains) ++ u ∷ f.rest = ap (λ us. r.front ++ us) f.split ∙ sym (append_assoc r.front f.plains (u ∷ f.rest)) in
    let each : EachHolds lines ((r.front ++ f.plains) ++ u ∷ f.rest) = subst (λ (us : List Unresolved). EachHolds lines us) all r.each in
    let means = plains_after lines r.front f.plains r.done f.none r.means in
    let holds = each (r.front ++ f.plains) u f.rest refl in
    let count : length (r.done ++ first_forms f.plains) ≡ length (r.front ++ f.plains) = mean_length lines 0 (statements_seen (r.front ++ f.plains)) (r.done ++ first_forms f.plains) means ∙ length-map (r.front ++ f.plains) (λ (v : Unresolved). statement_seen v.statement) in
    let after : first_forms r.back ≡ first_forms f.plains ++ drafted u.statement ∷ first_forms f.rest = ap first_forms f.split ∙ map-append (λ (v : Unresolved). drafted v.statement) f.plains (u ∷ f.rest) in
    record {
      front = r.front ++ f.plains;
      rest = f.rest;
      statements = r.statements ∙ ap statements_seen all;
      each = each;
      done = r.done ++ first_forms f.plains;
      means = means;
      forms = r.forms ∙ ap (λ c. r.done ++ c) after ∙ sym (append_assoc r.done (first_forms f.plains) (drafted u.statement ∷ first_forms f.rest));
      labelled = f.labelled;
      counted = holds.place ∙ sym count;
    }

-- The next instruction with labels.
pub next_is : (lines : List SourceLine) (code : List Instr) (u : Unresolved) (more : List Unresolved) → IsResolvedTo lines code (u ∷ more) → IsNext lines code u more
next_is lines code u more r = next_by lines code u more r (first_kept r.back u more r.labelled)

-- The first of the unresolved instructions that are left.
pub next_at : (lines : List SourceLine) (code : List Instr) (items : List Unresolved) (at : ℕ) (d : Unresolved) → at < length items → IsResolvedTo lines code (drop at items) → IsNext lines code (get_or items at d) (drop (at + 1) items)
next_at lines code items at d h r = next_is lines code (get_or items at d) (drop (at + 1) items) (subst (λ (us : List Unresolved). IsResolvedTo lines code us) (drop_more items at d h) r)

-- The next one is within the code.
pub next_within : (lines : List SourceLine) (code : List Instr) (u : Unresolved) (more : List Unresolved) → IsNext lines code u more → u.place < length code
next_within lines code u more n =
    let count = ap length n.forms ∙ length-append n.done (drafted u.statement ∷ first_forms n.rest) in
    let place = n.counted in
    omega arith

-- The first of those that are left is within the code.
pub next_at_within : (lines : List SourceLine) (code : List Instr) (items : List Unresolved) (at : ℕ) (d : Unresolved) (count : ℕ) → at < length items → count ≡ length code → IsResolvedTo lines code (drop at items) → (get_or items at d).place < count
next_at_within lines code items at d count h e r = let within = next_within lines code (get_or items at d) (drop (at + 1) items) (next_at lines code items at d h r) in omega arith

-- The next one is resolved.
pub next_resolved : (lines : List SourceLine) (code : List Instr) (u : Unresolved) (more : List Unresolved) (i : Instr) → Means lines u.place (statement_seen u.statement) i → IsNext lines code u more → IsResolvedTo lines (set code u.place i) more
next_resolved lines code u more i here n =
    let all : (n.front ++ u ∷ []) ++ n.rest ≡ n.front ++ u ∷ n.rest = append_assoc n.front (u ∷ []) n.rest in
    let seen = λ (v : Unresolved). statement_seen v.statement in
    let count : 0 + length (statements_seen n.front) ≡ u.place = sym (n.counted ∙ mean_length lines 0 (statements_seen n.front) n.done n.means ∙ omega arith) in
    let more_means = mean_more lines 0 (statements_seen n.front) n.done (statement_seen u.statement) i n.means (subst (λ (p : ℕ). Means lines p (statement_seen u.statement) i) (sym count) here) in
    record {
      front = n.front ++ u ∷ [];
      back = n.rest;
      statements = n.statements ∙ ap statements_seen (sym all);
      each = subst (λ (us : List Unresolved). EachHolds lines us) (sym all) n.each;
      done = n.done ++ i ∷ [];
      means = subst (λ (ss : List Statement). MeanFrom lines 0 ss (n.done ++ i ∷ [])) (sym (map-append seen n.front (u ∷ []))) more_means;
      forms = ap (λ c. set c u.place i) n.forms ∙ set_at n.done (drafted u.statement) (first_forms n.rest) i u.place (sym n.counted) ∙ sym (append_assoc n.done (i ∷ []) (first_forms n.rest));
      labelled = n.labelled;
    }

-- The next one can't be resolved.
pub next_fault : (lines : List SourceLine) (code : List Instr) (u : Unresolved) (more : List Unresolved) (kind : AsmKind) (fault : AsmFault) → fault.line ≡ u.line → fault.kind ≡ kind → IsStatementFault lines u.place (statement_seen u.statement) kind → IsNext lines code u more → IsFirstOperandFault lines fault
next_fault lines code u more kind fault l k f n =
    let s = n.each n.front u n.rest refl in
    let place : u.place ≡ length (statements_of s.before) = s.place ∙ sym (ap length s.earlier ∙ length-map n.front (λ (v : Unresolved). statement_seen v.statement)) in
    record {
      before = s.before;
      here = s.here;
      after = s.after;
      split = s.split;
      number = l ∙ s.number;
      earlier = rw s.earlier (mean_have lines 0 (statements_seen n.front) n.done n.means);
      statement = statement_seen u.statement;
      holds = s.holds;
      faulty = subst (λ (p : ℕ). IsStatementFault lines p (statement_seen u.statement) fault.kind) place (subst (λ (j : AsmKind). IsStatementFault lines u.place (statement_seen u.statement) j) (sym k) f);
    }

-- All are resolved.
pub resolved_all : (lines : List SourceLine) (code : List Instr) (unresolved : List Unresolved) → unresolved ≡ [] → IsResolvedTo lines code unresolved → MeanFrom lines 0 (statements_of lines) code
resolved_all lines code unresolved none r =
    let plains : filter is_unresolved r.back ≡ [] = sym r.labelled ∙ none in
    rw (r.statements, r.forms) (plains_after lines r.front r.back r.done plains r.means)
