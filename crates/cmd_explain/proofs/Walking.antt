-- The marks of places, and the path along them.
use Rattle.std.proofs.Common.{◌≡◌, ◌≢◌, inl, inr, ℕ, zero, suc, ◌+◌, ◌<◌, ◌≤◌, Bool, true, false, List, [], ◌∷◌, ◌++◌, length, get_or, reverse, replicate, set, Any, refl, sym, subst, ◌∙◌, arith, get_or-set_same, get_or-set_other}
use Rattle.std.proofs.lemmas.Bool.{cases_lt}
use Rattle.std.proofs.lemmas.List.{reverse-append}
use Rattle.std.proofs.lemmas.Option.{slice_get_within}
use Rattle.bpf_code.specs.Flow.{IsSuccessor, LeadsTo, IsInstrAt}
use Rattle.bpf_code.specs.Scratch.{StoresWord}
use Rattle.bpf_code.specs.declared.instr.Instr.{Instr}
use Rattle.bpf_verify.specs.Paths.{IsPath, Stores}
use Rattle.bpf_verify.specs.Faults.{IsUnwrittenAt}
use Rattle.bpf_verify.proofs.Onward.{decide_same, successor_forward}
use Rattle.bpf_verify.proofs.Places.{any_here, any_later, any_none, any_split, one_there}
use Rattle.cmd_explain.specs.CodePaths.{LeavesUnwritten}
use Rattle.cmd_explain.specs.inner.Leading.{IsMarked, LeadsOn, MarksFrom}

-- A marked place is marked after another was.
still_marked : (marks : List Bool) (place other : ℕ) → place < length marks → IsMarked marks other → IsMarked (set marks place true) other
still_marked marks place other lt h =
    elim (decide_same other place) [
      | inl e ↦ subst (λ (n : ℕ). get_or (set marks place true) n false ≡ true) (sym e) (get_or-set_same marks place true false lt)
      | inr ne ↦ get_or-set_other marks place other true false ne ∙ h
    ]

-- What is marked after a place was is that place, or was marked before.
marked_before : (marks : List Bool) (place other : ℕ) → other ≢ place → IsMarked (set marks place true) other → IsMarked marks other
marked_before marks place other ne h = sym (get_or-set_other marks place other true false ne) ∙ h

unmarked : (size other : ℕ) → get_or (replicate size false) other false ≡ false
unmarked zero other = refl
unmarked (suc size) zero = refl
unmarked (suc size) (suc other) = unmarked size other

module _ (code : List Instr) (word at : ℕ) where
  leads_still : (marks : List Bool) (place other : ℕ) → place < length marks → LeadsOn code word marks other → LeadsOn code word (set marks place true) other
  leads_still marks place other lt on =
      record { quiet = on.quiet; next = on.next; marked = still_marked marks place on.next lt on.marked; step = on.step }

  -- The marks with the read alone.
  pub first_mark : (size : ℕ) → at < length (replicate size false) → MarksFrom code word at (set (replicate size false) at true) at
  first_mark size lt =
      let none = replicate size false in
      record {
        sound = λ p h. elim (decide_same p at) [ inl e ↦ inl e | inr ne ↦ absurd (nothing (marked_before none at p ne h) (unmarked size p)) ];
        whole = λ p from below on. absurd (omega (arith, from, below));
        read = get_or-set_same none at true false lt;
      }
    where
      nothing : {b : Bool} → b ≡ true → b ≡ false → ⊥
      nothing p q = cc

  -- A place that doesn't lead on isn't marked.
  pub quiet_kept : (marks : List Bool) (place : ℕ) → MarksFrom code word at marks (place + 1) → (LeadsOn code word marks place → ⊥) → MarksFrom code word at marks place
  quiet_kept marks place m never = record {
    sound = m.sound;
    whole = λ p from below on. elim (cases_lt place p) [
      | inl later ↦ m.whole p (omega arith) below on
      | inr le ↦ let e : p ≡ place = omega arith in absurd (never (subst (λ (n : ℕ). LeadsOn code word marks n) e on))
    ];
    read = m.read;
  }

  -- A place that leads on is.
  pub marked_kept : (marks : List Bool) (place : ℕ) → place < length marks → place < at → MarksFrom code word at marks (place + 1) → LeadsOn code word marks place
      → MarksFrom code word at (set marks place true) place
  marked_kept marks place room lt m on =
      let more = set marks place true in
      let here : IsMarked more place = get_or-set_same marks place true false room in
      record {
        sound = λ p h. elim (decide_same p place) [
          | inl e ↦ inr (subst (λ (n : ℕ). n < at) (sym e) lt, subst (λ (n : ℕ). LeadsOn code word more n) (sym e) (leads_still marks place place room on))
          | inr ne ↦ elim (m.sound p (marked_before marks place p ne h)) [ inl e ↦ inl e | inr q ↦ inr (q.0, leads_still marks place p room q.1) ]
        ];
        whole = λ p from below leads. elim (cases_lt place p) [
          | inl later ↦
              let forward : p < leads.next = successor_forward code p leads.next leads.step in
              let ne : leads.next ≢ place = λ e. omega (arith, e, later, forward) in
              let before : LeadsOn code word marks p = record { quiet = leads.quiet; next = leads.next; marked = marked_before marks place leads.next ne leads.marked; step = leads.step } in
              still_marked marks place p room (m.whole p (omega arith) below before)
          | inr le ↦ let e : p ≡ place = omega arith in subst (λ (n : ℕ). IsMarked more n) (sym e) here
        ];
        read = still_marked marks place at room m.read;
      }

  -- A marked place is the read, or comes before it.
  pub marked_within : (marks : List Bool) (from place : ℕ) → MarksFrom code word at marks from → IsMarked marks place → place ≤ at
  marked_within marks from place m h = elim (m.sound place h) [ inl e ↦ omega (arith, e) | inr b ↦ omega (arith, b.0) ]

  -- A marked place before the read leads on.
  pub marked_leads : (marks : List Bool) (place : ℕ) → MarksFrom code word at marks 0 → IsMarked marks place → place ≢ at → (place < at) × LeadsOn code word marks place
  marked_leads marks place m h ne = elim (m.sound place h) [ inl e ↦ absurd (ne e) | inr b ↦ b ]

  -- The place at which a path without a store begins is marked.
  back : (marks : List Bool) → MarksFrom code word at marks 0 → (passed : List ℕ) (q : ℕ) → IsPath code passed q → (Any (Stores code word) passed → ⊥) → IsMarked marks q → IsMarked marks 0
  back marks m [] q path never h = subst (λ (n : ℕ). IsMarked marks n) path h
  back marks m (latest ∷ passed) q path never h =
      let forward : latest < q = successor_forward code latest q path.1 in
      let near : q ≤ at = marked_within marks 0 q m h in
      let on : LeadsOn code word marks latest = record { quiet = λ s. never (any_here (Stores code word) latest passed s); next = q; marked = h; step = path.1 } in
      back marks m passed latest path.0 (λ any. never (any_later (Stores code word) latest passed any)) (m.whole latest (omega arith) (omega arith) on)

  pub start_marked : (marks : List Bool) → MarksFrom code word at marks 0 → IsUnwrittenAt code at word → IsMarked marks 0
  start_marked marks m unwritten = back marks m unwritten.1.0 at unwritten.1.1 unwritten.1.2 m.read

  -- The read is in the code.
  pub read_within : IsUnwrittenAt code at word → at < length code
  read_within unwritten = slice_get_within code at unwritten.0.0 unwritten.0.1

  -- One step more.
  pub path_more : (path : List ℕ) (here next : ℕ) → LeavesUnwritten code here word (reverse path) → (Stores code word here → ⊥) → IsSuccessor code here next
      → LeavesUnwritten code next word (reverse (path ++ here ∷ []))
  path_more path here next so quiet step =
      subst (λ (passed : List ℕ). LeavesUnwritten code next word passed) (sym (reverse-append path (here ∷ [])))
      ((so.0, step), λ any. elim (any_split (Stores code word) here (reverse path) any) [ inl s ↦ quiet s | inr a ↦ so.1 a ])

  -- No step.
  pub path_none : LeavesUnwritten code 0 word (reverse [])
  path_none = (refl, λ any. any_none (Stores code word) any)

  -- The instruction at a place decides whether it stores and where it leads.
  pub not_quiet : (place : ℕ) (i : Instr) (marks : List Bool) → IsInstrAt code place i → StoresWord i word → LeadsOn code word marks place → ⊥
  not_quiet place i marks instr_there stores on = on.quiet (i, instr_there, stores)

  pub not_leading : (place : ℕ) (i : Instr) (marks : List Bool) → IsInstrAt code place i → ((next : ℕ) → LeadsTo place i next → IsMarked marks next → ⊥) → LeadsOn code word marks place → ⊥
  not_leading place i marks instr_there none on =
      let same = one_there code place on.step.0 i on.step.1 instr_there in
      none on.next (subst (λ (j : Instr). LeadsTo place j on.next) same on.step.2) on.marked

  pub leading : (place next : ℕ) (i : Instr) (marks : List Bool) → IsInstrAt code place i → (StoresWord i word → ⊥) → IsMarked marks next → LeadsTo place i next → LeadsOn code word marks place
  leading place next i marks instr_there quiet marked leads = record {
    quiet = λ s. quiet (subst (λ (j : Instr). StoresWord j word) (one_there code place s.0 i s.1 instr_there) s.2);
    next = next;
    marked = marked;
    step = (i, instr_there, leads);
  }
