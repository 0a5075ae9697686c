-- An input of `rules` or of `why` has one text.
use Rattle.std.proofs.Common.{◌≡◌, ◌≤◌, ◌==◌, ℕ, Bool, true, false, if◌then◌else◌, List, [], ◌∷◌, ◌++◌, Option, Some, None, Result, Ok, Err, inl, inr, length, refl, sym, ap, subst, ◌∙◌, arith, append_assoc}
use Rattle.std.proofs.lemmas.Bool.{eqb-true}
use Rattle.bpf_code.specs.declared.instr.Instr.{Instr}
use Rattle.rules_text.specs.CodeOfText.{IsCodeOfText}
use Rattle.rules_text.specs.RulesRead.{RulesRead}
use Rattle.rules_text.specs.TextFaults.{IsTooLong}
use Rattle.rules_text.specs.TextOfRules.{PlacedRulesRead, placed_rules_in, rules_in}
use Rattle.rules_text.specs.declared.fault.RuleFault.{RuleFault}
use Rattle.rules_text.proofs.Public.{one_code}
use Rattle.text_io.specs.Gathered.{gathered}
use Rattle.text_io.specs.Lines.{Line, begun_with, line_with_feed, lines_of}
use Rattle.text_io.specs.Printing.{IsFunctional, Prints}
use Rattle.text_io.proofs.Public.{one-text}
use Rattle.text_io.specs.declared.ending.Done.{Done}
use Rattle.cmd_rules.specs.RuleFaults.{rule_fault}
use Rattle.cmd_rules.specs.RulesAnswers.{AnswersBy, PrintsFault, most_rules_octets}
use Rattle.cmd_rules.specs.RulesLaws.{RulesHaveOneText}
use Rattle.cmd_rules.specs.RulesText.{PrintsRules}
use Rattle.cmd_rules.specs.WhyLaws.{RulesBeginTheInput, WhyHasOneText}
use Rattle.cmd_rules.specs.WhyText.{PrintsDecisions, first_world, is_cells_line, lines_after, rules_before, rules_of_why, why_rules}
use Rattle.cmd_programs.specs.Check.{accepted_text}

never_both : {A : Type 0} (rules : RulesRead) (fault : RuleFault) (found : Result RulesRead RuleFault) → found ≡ Ok rules → found ≡ Err fault → A
never_both rules fault found e f = absurd (cc)

one_fault : (fault other : RuleFault) (found : Result RulesRead RuleFault) → found ≡ Err fault → found ≡ Err other → fault ≡ other
one_fault fault other found e f = cc

-- A code of at most 4096 instructions isn't too long.
not_long : {A : Type 0} (text : List ℕ) (code : List Instr) → IsCodeOfText text code → length code ≤ 4096 → IsTooLong text → A
not_long text code is fits long =
    let same : length long.code ≡ length code = ap length (one_code text long.code code long.of_text is) in
    let longer = long.longer in
    absurd (omega (arith, fits, same, longer))

-- Two faults of a text are one.
one_faulty : (text answer other : List ℕ) (done finish : Done) → PrintsFault text answer done → PrintsFault text other finish → (answer ≡ other) × (done ≡ finish)
one_faulty text answer other done finish (inl x) (inl y) = (x.2 ∙ ap rule_fault (one_fault x.0 y.0 (rules_in text) x.1 y.1) ∙ sym y.2, x.3 ∙ sym y.3)
one_faulty text answer other done finish (inl x) (inr y) = never_both _ x.0 (rules_in text) y.0.of_text.read x.1
one_faulty text answer other done finish (inr x) (inl y) = never_both _ y.0 (rules_in text) x.0.of_text.read y.1
one_faulty text answer other done finish (inr x) (inr y) = (x.1.0 ∙ sym y.1.0, x.1.1 ∙ sym y.1.1)

-- A text with a code that isn't too long has no fault.
never_faulty : {A : Type 0} (text answer : List ℕ) (done : Done) (code : List Instr) → IsCodeOfText text code → length code ≤ 4096 → PrintsFault text answer done → A
never_faulty text answer done code is fits (inl x) = never_both _ x.0 (rules_in text) is.read x.1
never_faulty text answer done code is fits (inr x) = not_long text code is fits x.0

prints_one : (text answer other : List ℕ) (done finish : Done) → PrintsRules text answer done → PrintsRules text other finish → (answer ≡ other) × (done ≡ finish)
prints_one text answer other done finish (inl x) (inl y) = (x.4 ∙ ap accepted_text (one_code text x.0 y.0 x.3 y.3) ∙ sym y.4, x.5 ∙ sym y.5)
prints_one text answer other done finish (inl x) (inr y) = never_faulty text other finish x.0 x.3 x.1.sized.most y
prints_one text answer other done finish (inr x) (inl y) = never_faulty text answer done y.0 y.3 y.1.sized.most x
prints_one text answer other done finish (inr x) (inr y) = one_faulty text answer other done finish x y

-- What answers a text has one answer for each.
abbrev IsOne : (List ℕ → List ℕ → Done → Type 0) → Type 0
IsOne prints = (text answer other : List ℕ) (done finish : Done) → prints text answer done → prints text other finish → (answer ≡ other) × (done ≡ finish)

answers_one : (prints : List ℕ → List ℕ → Done → Type 0) (found : Option (List ℕ)) (answer other : List ℕ) (done finish : Done) → IsOne prints
    → AnswersBy prints found answer done → AnswersBy prints found other finish → (answer ≡ other) × (done ≡ finish)
answers_one prints None answer other done finish one x y = (x.0 ∙ sym y.0, x.1 ∙ sym y.1)
answers_one prints (Some text) answer other done finish one x y = one text answer other done finish x y

pub one_text : RulesHaveOneText
one_text octets answer other done finish x y = answers_one PrintsRules (gathered most_rules_octets octets) answer other done finish prints_one x y

-- ---- why

functional : IsFunctional why_rules
functional = record {
  step = λ before line here here' next next' x y. (x.0 ∙ sym y.0, x.1 ∙ sym y.1);
  close = λ before here here' done done' x y. (x.0 ∙ sym y.0, x.1 ∙ sym y.1);
}

same_placed_rules : (one other : PlacedRulesRead) (found : Result PlacedRulesRead RuleFault) → found ≡ Ok one → found ≡ Ok other → one ≡ other
same_placed_rules one other found e f = cc

decisions_one : (counts : Bool) (cells : List Line) → IsOne (PrintsDecisions counts cells)
decisions_one counts cells text answer other done finish (inl x) (inl y) =
    let same : x.0 ≡ y.0 = same_placed_rules x.0 y.0 (placed_rules_in text) x.1 y.1 in
    one-text why_rules functional cells 0 (first_world counts y.0) answer other done finish
    (subst (λ (n : PlacedRulesRead). Prints why_rules 0 (first_world counts n) cells answer done) same x.3) y.3
decisions_one counts cells text answer other done finish (inl x) (inr y) = never_faulty text other finish x.2.code x.2.of_text x.2.within y
decisions_one counts cells text answer other done finish (inr x) (inl y) = never_faulty text answer done y.2.code y.2.of_text y.2.within x
decisions_one counts cells text answer other done finish (inr x) (inr y) = one_faulty text answer other done finish x y

pub why_one_text : WhyHasOneText
why_one_text counts octets answer other done finish x y =
    answers_one (PrintsDecisions counts (lines_after (lines_of octets))) (rules_of_why octets) answer other done finish (decisions_one counts (lines_after (lines_of octets))) x y

-- ---- the text of the rules is the beginning

abbrev BeginsWith : List ℕ → List ℕ → Type 0
BeginsWith octets front = (more : List ℕ) × (octets ≡ front ++ more)

-- The octets of lines.
abbrev all_octets : List Line → List ℕ
all_octets [] = []
all_octets (line ∷ lines) = line_with_feed line ++ all_octets lines

put_before : (octet : ℕ) (lines : List Line) → all_octets (begun_with octet lines) ≡ octet ∷ all_octets lines
put_before octet [] = refl
put_before octet (line ∷ lines) = by line.ended refl
  where
    by : (b : Bool) → line.ended ≡ b → all_octets (begun_with octet (line ∷ lines)) ≡ octet ∷ all_octets (line ∷ lines)
    by true e = rw e refl
    by false e = rw e refl

octets_kept_by : (b : Bool) (octet : ℕ) (octets : List ℕ) → (octet == 10) ≡ b → all_octets (lines_of octets) ≡ octets → all_octets (lines_of (octet ∷ octets)) ≡ octet ∷ octets
octets_kept_by true octet octets e kept =
    rw e (ap (λ (o : ℕ). o ∷ all_octets (lines_of octets)) (sym (eqb-true octet 10 e)) ∙ ap (λ (os : List ℕ). octet ∷ os) kept)
octets_kept_by false octet octets e kept = rw e (put_before octet (lines_of octets) ∙ ap (λ (os : List ℕ). octet ∷ os) kept)

octets_kept : (octets : List ℕ) → all_octets (lines_of octets) ≡ octets
octets_kept [] = refl
octets_kept (octet ∷ octets) = octets_kept_by (octet == 10) octet octets refl (octets_kept octets)

rules_first_by : (b : Bool) (line : Line) (lines : List Line) → BeginsWith (all_octets lines) (rules_before lines)
    → BeginsWith (all_octets (line ∷ lines)) (if b then [] else line_with_feed line ++ rules_before lines)
rules_first_by true line lines later = (all_octets (line ∷ lines), refl)
rules_first_by false line lines later =
    (later.0, ap (λ (os : List ℕ). line_with_feed line ++ os) later.1 ∙ sym (append_assoc (line_with_feed line) (rules_before lines) later.0))

rules_first : (lines : List Line) → BeginsWith (all_octets lines) (rules_before lines)
rules_first [] = ([], refl)
rules_first (line ∷ lines) = rules_first_by (is_cells_line line) line lines (rules_first lines)

pub rules_begin : RulesBeginTheInput
rules_begin octets = subst (λ (os : List ℕ). BeginsWith os (rules_before (lines_of octets))) (octets_kept octets) (rules_first (lines_of octets))
