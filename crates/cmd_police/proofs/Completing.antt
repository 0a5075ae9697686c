-- How the lines that are left complete a script.
use Rattle.std.proofs.Common.{◌≡◌, ◌⊎◌, inl, inr, ℕ, ◌+◌, List, [], ◌++◌, Option, Some, None, refl, sym, ap, subst, ◌∙◌, append-nil, append_assoc, length}
use Rattle.std.specs.Option.{MatchOption}
use Rattle.bpf_code.specs.declared.instr.Instr.{Instr}
use Rattle.text_io.specs.Lines.{Line, line_with_feed, lines_of}
use Rattle.cmd_police.specs.FaultyRules.{HasFaultIn, HasFaultyRules, IsRulesFaultAt, rules_place}
use Rattle.cmd_police.specs.RulesFiles.{IsFaultOfRules, IsProgramOfRules, later_texts, next_text}
use Rattle.cmd_setups.specs.RulesLines.{name_within, named_rules}
use Rattle.cmd_police.specs.SetupPrograms.{HasPrograms, HasProgramsIn, load_line}
use Rattle.cmd_police.specs.inner.Expansion.{Completes, GrowsByProgram}
use Rattle.cmd_setups.specs.ScriptLine.{BeginsWithLine}

-- What replaces lines, the first of which has this name or none.
abbrev pub ReplacesAt : Option (List ℕ) → Line → List Line → List (List ℕ) → List ℕ → Type 0
ReplacesAt name line lines texts expanded = MatchOption name
    ((rest : List ℕ) × HasProgramsIn lines texts rest × (expanded ≡ line_with_feed line ++ rest))
    (λ name. (code : List Instr) × IsProgramOfRules (next_text texts) code
    × ((rest : List ℕ) × HasProgramsIn lines (later_texts texts) rest × (expanded ≡ load_line code ++ rest)))

-- A fault among such lines.
abbrev pub FailsAt : (List ℕ → List ℕ → List ℕ → Type 0) → Option (List ℕ) → ℕ → List Line → List (List ℕ) → List ℕ → Type 0
FailsAt IsFault name met lines texts text = MatchOption name
    (HasFaultIn IsFault (met + 1) lines texts text)
    (λ name. IsRulesFaultAt IsFault (met + 1) name (next_text texts) text
    ⊎ ((code : List Instr) × IsProgramOfRules (next_text texts) code × HasFaultIn IsFault (met + 1) lines (later_texts texts) text))

module _ (script : List ℕ) (texts : List (List ℕ)) (made : List ℕ) (met : ℕ) (left : List ℕ) (texts_left : List (List ℕ)) (so : Completes script texts made met left texts_left) where
  -- With no line left, the script is made.
  pub made_whole : lines_of left ≡ [] → HasPrograms script texts made
  made_whole none =
      subst (HasPrograms script texts) (append-nil made) (so.programs [] (subst (λ (ls : List Line). HasProgramsIn ls texts_left []) (sym none) refl))

  module _ (content : List ℕ) (size : ℕ) (whole rest : List ℕ) (cut : BeginsWithLine left content size whole rest) where
    -- What the line names by its content and its size.
    named_here : (name : Option (List ℕ)) → name_within size content ≡ name → named_rules cut.line ≡ name
    named_here name named =
        ap (λ (c : List ℕ). name_within (length cut.line.octets) c) (sym cut.says) ∙ ap (λ (n : ℕ). name_within n content) (sym cut.counted) ∙ named

    replaces : (name : Option (List ℕ)) (expanded : List ℕ) → name_within size content ≡ name → ReplacesAt name cut.line (lines_of rest) texts_left expanded
        → HasPrograms script texts (made ++ expanded)
    replaces name expanded named is =
        let here : named_rules cut.line ≡ name = named_here name named in
        so.programs expanded (subst (λ (ls : List Line). HasProgramsIn ls texts_left expanded) (sym cut.lines)
        (subst (λ (n : Option (List ℕ)). ReplacesAt n cut.line (lines_of rest) texts_left expanded) (sym here) is))

    fails : (name : Option (List ℕ)) (text : List ℕ) → name_within size content ≡ name → FailsAt IsFaultOfRules name met (lines_of rest) texts_left text
        → HasFaultyRules IsFaultOfRules script texts text
    fails name text named is =
        let here : named_rules cut.line ≡ name = named_here name named in
        so.faults text (subst (λ (ls : List Line). HasFaultIn IsFaultOfRules met ls texts_left text) (sym cut.lines)
        (subst (λ (n : Option (List ℕ)). FailsAt IsFaultOfRules n met (lines_of rest) texts_left text) (sym here) is))

    -- A line that names rules with a fault has the report about the script.
    pub faulty_line : (name fault reason text : List ℕ) → name_within size content ≡ Some name → IsFaultOfRules (next_text texts_left) fault reason
        → text ≡ fault ++ rules_place (met + 1) name reason → HasFaultyRules IsFaultOfRules script texts text
    faulty_line name fault reason text named is printed = fails (Some name) text named (inl (fault, reason, is, printed))

    -- A line that names no rules goes as it is after what was made.
    pub kept_line : (new : List ℕ) → name_within size content ≡ None → new ≡ made ++ whole → Completes script texts new (met + 1) rest texts_left
    kept_line new named is = record {
      programs = λ more h.
          subst (HasPrograms script texts) (sym (ap (λ (t : List ℕ). t ++ more) (is ∙ ap (λ (w : List ℕ). made ++ w) cut.octets) ∙ append_assoc made (line_with_feed cut.line) more))
          (replaces None (line_with_feed cut.line ++ more) named (more, h, refl));
      faults = λ text h. fails None text named h;
    }

    -- The line that loads a program goes there in place of a line that names rules.
    pub loaded_line : (name new : List ℕ) → name_within size content ≡ Some name → GrowsByProgram (next_text texts_left) made new
        → Completes script texts new (met + 1) rest (later_texts texts_left)
    loaded_line name new named (code, program, is) = record {
      programs = λ more h.
          subst (HasPrograms script texts) (sym (ap (λ (t : List ℕ). t ++ more) is ∙ append_assoc made (load_line code) more))
          (replaces (Some name) (load_line code ++ more) named (code, program, (more, h, refl)));
      faults = λ text h. fails (Some name) text named (inr (code, program, h));
    }
