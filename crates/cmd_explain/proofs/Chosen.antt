-- The answer to an input is that to what follows its first line, or that to a script.
use Rattle.std.proofs.Common.{◌≡◌, inl, inr, ℕ, ◌+◌, Bool, true, false, nat_le, ◌&&◌, if◌then◌else◌, List, [], ◌∷◌, ◌++◌, drop, Option, Some, None, Result, IfOk, codes, length, option_map, refl, sym, ap, ◌∙◌, subst, append_assoc, append-nil}
use Rattle.std.proofs.lemmas.Bool.{MatchBool-at_false, and_parts, le-ltb, leb-true}
use Rattle.std.proofs.lemmas.Result.{IfOk-weaker, on_err_weaker}
use Rattle.std.proofs.lemmas.Slice.Eq.{bytes_eq-Decides}
use Rattle.std.specs.Bool.{MatchBool}
use Rattle.std.specs.Option.{MatchOption}
use Rattle.text_io.specs.Devices.{Adds}
use Rattle.text_io.specs.Failures.{read_failures}
use Rattle.text_io.specs.Limits.{is_over, most_line_octets}
use Rattle.text_io.specs.Lines.{Line, line_content, lines_of}
use Rattle.text_io.specs.Printing.{IsFront, Prints}
use Rattle.text_io.specs.Serving.{IsServed}
use Rattle.text_io.specs.Words.{is_silent, words_of}
use Rattle.text_io.specs.declared.device.Input.{Ghosts as InputView}
use Rattle.text_io.specs.declared.device.Output.{Ghosts as OutputView}
use Rattle.text_io.specs.declared.ending.Done.{Done}
use Rattle.text_io.specs.declared.ending.Done.TheVariants.{Ended}
use Rattle.text_io.specs.declared.ending.RunFault.{RunFault}
use Rattle.cmd_explain.specs.Explained.{IsExplainText, IsExplainedBy, IsFaultsOrScript, IsSourceText}
use Rattle.cmd_explain.specs.FaultSentences.{IsFaultsText}
use Rattle.cmd_explain.specs.InputKinds.{PassesFirst, after_first, after_word, is_alone, is_word_line, faults_after, rules_after, source_after}
use Rattle.cmd_explain.specs.declared.first_line.InputKind.TheVariants.{Script}
use Rattle.cmd_explain_rules.proofs.Public.{ended-rules_explained}
use Rattle.cmd_explain_rules.specs.RulesExplained.{MayBeRulesExplained}
use Rattle.cmd_explain.proofs.Answered.{empty-source_answer, no-faults_answer}
use Rattle.cmd_explain.proofs.WordFront.{WordFront, last_line, word_front}
use Rattle.cmd_explain_script.specs.ScriptText.{ExplainsLine, IsScriptExplained, ScriptWorld, after_answer, before_script, script_rules}
use Rattle.cmd_run.specs.RunText.{OpensOrObeys, RunWorld}

-- The text of an input that begins with the line `source`, `rules` or `faults`, and of one that doesn't.
module _ (RulesText : List ℕ → List ℕ → Done → Type 0) where
  pub of_source : (octets source text : List ℕ) (done : Done) → source_after octets ≡ Some source → IsSourceText source text done
      → IsExplainedBy RulesText octets text done
  of_source octets source text done is answered =
      let Other : Type 0 = MatchOption (rules_after octets) (IsFaultsOrScript octets text done) (λ rules. RulesText rules text done) in
      let P : Option (List ℕ) → Type 0 = λ found. MatchOption found Other (λ source. IsSourceText source text done) in
      subst P (sym is) answered

  pub of_other : (octets text : List ℕ) (done : Done) → source_after octets ≡ None
      → MatchOption (rules_after octets) (IsFaultsOrScript octets text done) (λ rules. RulesText rules text done) → IsExplainedBy RulesText octets text done
  of_other octets text done is answered =
      let Other : Type 0 = MatchOption (rules_after octets) (IsFaultsOrScript octets text done) (λ rules. RulesText rules text done) in
      let P : Option (List ℕ) → Type 0 = λ found. MatchOption found Other (λ source. IsSourceText source text done) in
      subst P (sym is) answered

  pub of_rules : (octets rules text : List ℕ) (done : Done) → source_after octets ≡ None → rules_after octets ≡ Some rules → RulesText rules text done
      → IsExplainedBy RulesText octets text done
  of_rules octets rules text done none is answered =
      let P : Option (List ℕ) → Type 0 = λ found. MatchOption found (IsFaultsOrScript octets text done) (λ rules. RulesText rules text done) in
      of_other octets text done none (subst P (sym is) answered)

  of_last : (octets text : List ℕ) (done : Done) → source_after octets ≡ None → rules_after octets ≡ None → IsFaultsOrScript octets text done
      → IsExplainedBy RulesText octets text done
  of_last octets text done none is answered =
      let P : Option (List ℕ) → Type 0 = λ found. MatchOption found (IsFaultsOrScript octets text done) (λ rules. RulesText rules text done) in
      of_other octets text done none (subst P (sym is) answered)

  pub of_faults : (octets lines text : List ℕ) (done : Done) → source_after octets ≡ None → rules_after octets ≡ None → faults_after octets ≡ Some lines
      → IsFaultsText lines text done → IsExplainedBy RulesText octets text done
  of_faults octets lines text done none other is answered =
      let P : Option (List ℕ) → Type 0 = λ found. MatchOption found (IsScriptExplained octets text done) (λ lines. IsFaultsText lines text done) in
      of_last octets text done none other (subst P (sym is) answered)

  pub of_script : (octets text : List ℕ) (done : Done) → source_after octets ≡ None → rules_after octets ≡ None → faults_after octets ≡ None
      → IsScriptExplained octets text done → IsExplainedBy RulesText octets text done
  of_script octets text done none other is answered =
      let P : Option (List ℕ) → Type 0 = λ found. MatchOption found (IsScriptExplained octets text done) (λ lines. IsFaultsText lines text done) in
      of_last octets text done none other (subst P (sym is) answered)

-- The front of an output with a text.
front_as : (One Other : List ℕ → Done → Type 0) (before after : List ℕ) → ((text : List ℕ) (done : Done) → One text done → Other text done)
    → Adds (IsFront One) before after → Adds (IsFront Other) before after
front_as One Other before after onto (text, grew, (more, done, answered)) = (text, grew, (more, done, onto (text ++ more) done answered))

-- No part of the empty list has an octet.
none_before : (x y : List ℕ) → [] ≡ x ++ y → x ≡ []
none_before [] y e = refl
none_before (octet ∷ x) y e = let no = e in cc

-- Enough of what follows the first line is enough of the input.
enough_after : (word octets source left needed ahead : List ℕ) → WordFront word octets source → source ≡ needed ++ (ahead ++ left)
    → (whole : List ℕ) × (octets ≡ whole ++ (ahead ++ left)) × (after_word word whole ≡ Some needed)
enough_after word octets source left needed ahead begins cut = (
  begins.front ++ needed,
  begins.cut ∙ ap (λ (xs : List ℕ). begins.front ++ xs) cut ∙ sym (append_assoc begins.front needed (ahead ++ left)),
  elim begins.starts [
    | inl any ↦ any needed
    | inr alone ↦
        let none : needed ≡ [] = none_before needed (ahead ++ left) (sym alone.1 ∙ cut) in
        ap (after_word word) (ap (λ (xs : List ℕ). begins.front ++ xs) none ∙ append-nil begins.front) ∙ alone.0 ∙ ap (λ (xs : List ℕ). Some xs) (sym none)
  ],
)

ended_by : (done : Done) (more : List ℕ) (next : Option ScriptWorld) (Later : ScriptWorld → Type 0) → next ≡ None
    → MatchOption next ((more ≡ []) × (done ≡ Ended)) Later → done ≡ Ended
ended_by done more None Later is ends = ends.1
ended_by done more (Some world) Later is ends = let no = is in cc

alone_word : (word : List ℕ) (words : List (List ℕ)) → is_alone word words ≡ true → words ≡ word ∷ []
alone_word word [] is = let no = is in cc
alone_word word (first ∷ []) is = ap (λ (word : List ℕ). word ∷ []) ((bytes_eq-Decides first word).0 is)
alone_word word (first ∷ other ∷ words) is = let no = is in cc

-- A line whose only word is this one opens no card.
abbrev OpensNone : List ℕ → Type 0
OpensNone word = (answer : List ℕ) (after : Option RunWorld)
    → MatchBool (is_silent (word ∷ [])) ((answer ≡ []) × (after ≡ Some None)) (OpensOrObeys None (word ∷ []) answer after) → after ≡ None

source_opens_none : OpensNone (codes "source")
source_opens_none answer after steps = steps.1

rules_opens_none : OpensNone (codes "rules")
rules_opens_none answer after steps = steps.1

faults_opens_none : OpensNone (codes "faults")
faults_opens_none answer after steps = steps.1

opens_none : (word : List ℕ) (words : List (List ℕ)) (answer : List ℕ) (after : Option RunWorld) → OpensNone word → words ≡ word ∷ []
    → MatchBool (is_silent words) ((answer ≡ []) × (after ≡ Some None)) (OpensOrObeys None words answer after) → after ≡ None
opens_none word words answer after opens is steps =
    let P : List (List ℕ) → Type 0 = λ (words : List (List ℕ)). MatchBool (is_silent words) ((answer ≡ []) × (after ≡ Some None)) (OpensOrObeys None words answer after) in
    opens answer after (subst P is steps)

word_stops : (word : List ℕ) (line : Line) (text : List ℕ) (done : Done) → OpensNone word → words_of (line_content line) ≡ word ∷ []
    → (here : List ℕ) × (more : List ℕ) × (next : Option ScriptWorld) × (text ≡ here ++ more) × ExplainsLine before_script (line_content line) here next
    × MatchOption next ((more ≡ []) × (done ≡ Ended)) (λ world. Prints script_rules 1 world [] more done) → done ≡ Ended
word_stops word line text done opens words (here, more, next, is, (answer, after, steps, e, to), rest) =
    ended_by done more next _ (to ∙ ap (option_map (after_answer before_script answer)) (opens_none word (words_of (line_content line)) answer after opens words steps)) rest

no_card : (word : List ℕ) (line : Line) (text : List ℕ) (done : Done) → OpensNone word → is_word_line word line ≡ true
    → Prints script_rules 0 before_script (line ∷ []) text done → done ≡ Ended
no_card word line text done opens is answered =
    let both = and_parts (nat_le (length line.octets) most_line_octets) (is_alone word (words_of (line_content line))) is in
    let within : is_over 0 line ≡ false = le-ltb most_line_octets (length line.octets) (leb-true (length line.octets) most_line_octets both.0) in
    word_stops word line text done opens (alone_word word (words_of (line_content line)) both.1) (MatchBool-at_false _ _ within answered)

-- An input that begins with the line of one word doesn't begin with that of another.
and_none : (b : Bool) → (b && false) ≡ false
and_none true = refl
and_none false = refl

module _ (word other : List ℕ) (apart : is_alone other (word ∷ []) ≡ false) where
  not_other_line : (line : Line) → is_word_line word line ≡ true → is_word_line other line ≡ false
  not_other_line line is =
      let within = nat_le (length line.octets) most_line_octets in
      let words = words_of (line_content line) in
      let both = and_parts within (is_alone word words) is in
      ap (λ (words : List (List ℕ)). within && is_alone other words) (alone_word word words both.1) ∙ ap (λ (b : Bool). within && b) apart ∙ and_none within

  not_other_by : (octets rest : List ℕ) (first : Line) (lines : List Line) (b : Bool) → is_word_line word first ≡ b
      → after_first word octets (first ∷ lines) ≡ Some rest → after_first other octets (first ∷ lines) ≡ None
  not_other_by octets rest first lines true is e =
      ap (λ (b : Bool). if b then Some (drop (length first.octets + 1) octets) else None) (not_other_line first is)
  not_other_by octets rest first lines false is e =
      let no : None ≡ Some rest = sym (ap (λ (b : Bool). if b then Some (drop (length first.octets + 1) octets) else None) is) ∙ e in
      absurd cc

  not_other_lines : (octets rest : List ℕ) (lines : List Line) → after_first word octets lines ≡ Some rest → after_first other octets lines ≡ None
  not_other_lines octets rest [] e = refl
  not_other_lines octets rest (first ∷ lines) e = not_other_by octets rest first lines (is_word_line word first) refl e

  not_other : (octets rest : List ℕ) → after_word word octets ≡ Some rest → after_word other octets ≡ None
  unfolding after_word
  not_other octets rest e = not_other_lines octets rest (lines_of octets) e

-- The octets are a front of an input that doesn't begin with this word alone on its line, and do so themselves. Then they are the word
-- alone, and a script ends there.
record AloneHere (word octets : List ℕ) (done : Done) : Type 0 where
  pub empty : after_word word octets ≡ Some []
  pub ends : done ≡ Ended

alone_here : (word octets needed later source text : List ℕ) (done : Done) → OpensNone word → octets ≡ needed ++ later → after_word word octets ≡ None
    → after_word word needed ≡ Some source → IsScriptExplained needed text done → AloneHere word needed done
alone_here word octets needed later source text done opens cut none is answered =
    let begins = word_front word needed source is in
    elim begins.starts [
      | inl any ↦
          let whole : octets ≡ begins.front ++ (source ++ later) = cut ∙ ap (λ (xs : List ℕ). xs ++ later) begins.cut ∙ append_assoc begins.front source later in
          let no : Some (source ++ later) ≡ None = sym (any (source ++ later)) ∙ ap (after_word word) (sym whole) ∙ none in
          absurd cc
      | inr alone ↦
          let here : needed ≡ begins.front = begins.cut ∙ ap (λ (xs : List ℕ). begins.front ++ xs) alone.1 ∙ append-nil begins.front in
          let lines : lines_of needed ≡ last_line begins.front ∷ [] = ap (λ (xs : List ℕ). lines_of xs) here ∙ alone.2 in
          record {
            empty = is ∙ ap (λ (xs : List ℕ). Some xs) alone.1;
            ends = no_card word (last_line begins.front) text done opens alone.3
                (subst (λ (lines : List Line). Prints script_rules 0 before_script lines text done) lines answered);
          }
    ]

-- Enough of a script is enough of the input.
module _ (octets needed later : List ℕ) (cut : octets ≡ needed ++ later) (no_source : source_after octets ≡ None) (no_rules : rules_after octets ≡ None)
    (no_faults : faults_after octets ≡ None) (text : List ℕ) (done : Done) (answered : IsScriptExplained needed text done) where
  last_answer : source_after needed ≡ None → rules_after needed ≡ None → (found : Option (List ℕ)) → faults_after needed ≡ found
      → (text' : List ℕ) × IsExplainText needed text' done
  last_answer none other None is = (text, of_script MayBeRulesExplained needed text done none other is answered)
  last_answer none other (Some lines) is =
      let here = alone_here (codes "faults") octets needed later lines text done faults_opens_none cut no_faults is answered in (
        [],
        subst (λ (d : Done). IsExplainText needed [] d) (sym here.ends) (of_faults MayBeRulesExplained needed [] [] Ended none other here.empty no-faults_answer),
      )

  other_answer : source_after needed ≡ None → (found : Option (List ℕ)) → rules_after needed ≡ found → (text' : List ℕ) × IsExplainText needed text' done
  other_answer none None is = last_answer none is (faults_after needed) refl
  other_answer none (Some rules) is =
      let here = alone_here (codes "rules") octets needed later rules text done rules_opens_none cut no_rules is answered in
      let ended = ended-rules_explained [] in (
        ended.0,
        subst (λ (d : Done). IsExplainText needed ended.0 d) (sym here.ends) (of_rules MayBeRulesExplained needed [] ended.0 Ended none here.empty ended.1),
      )

  front_answer : (found : Option (List ℕ)) → source_after needed ≡ found → (text' : List ℕ) × IsExplainText needed text' done
  front_answer None is = other_answer is (rules_after needed) refl
  front_answer (Some source) is =
      let here = alone_here (codes "source") octets needed later source text done source_opens_none cut no_source is answered in (
        empty-source_answer.0,
        subst (λ (d : Done). IsExplainText needed empty-source_answer.0 d) (sym here.ends)
            (of_source MayBeRulesExplained needed [] empty-source_answer.0 Ended here.empty empty-source_answer.1),
      )

-- A text that follows a first line is a text of the input.
abbrev Follows : List ℕ → (List ℕ → List ℕ → Done → Type 0) → (List ℕ → List ℕ → Done → Type 0) → Type 0
Follows word IsText IsWhole = (octets rest text : List ℕ) (done : Done) → after_word word octets ≡ Some rest → IsText rest text done → IsWhole octets text done

pub source_follows : (RulesText : List ℕ → List ℕ → Done → Type 0) → Follows (codes "source") IsSourceText (IsExplainedBy RulesText)
source_follows RulesText octets source text done is answered = of_source RulesText octets source text done is answered

pub rules_follow : (RulesText : List ℕ → List ℕ → Done → Type 0) → Follows (codes "rules") RulesText (IsExplainedBy RulesText)
rules_follow RulesText octets rules text done is answered =
    of_rules RulesText octets rules text done (not_other (codes "rules") (codes "source") refl octets rules is) is answered

pub faults_follow : (RulesText : List ℕ → List ℕ → Done → Type 0) → Follows (codes "faults") IsFaultsText (IsExplainedBy RulesText)
faults_follow RulesText octets lines text done is answered =
    of_faults RulesText octets lines text done (not_other (codes "faults") (codes "source") refl octets lines is)
    (not_other (codes "faults") (codes "rules") refl octets lines is) is answered

-- What a text of the rest adds is what a text of the whole adds.
pub adds_after : (word : List ℕ) (IsText IsWhole : List ℕ → List ℕ → Done → Type 0) (octets rest before after : List ℕ) (result : Result Done RunFault)
    → Follows word IsText IsWhole → after_word word octets ≡ Some rest → IfOk result (λ done. Adds (λ text. IsText rest text done) before after)
    → IfOk result (λ done. Adds (λ text. IsWhole octets text done) before after)
adds_after word IsText IsWhole octets rest before after result follows is added =
    IfOk-weaker result _ _ (λ done adds. (adds.0, adds.1, follows octets rest adds.0 done is adds.2)) added

module _ {Source : Type 0} (I : InputView Source) (source read source' : Source) {Sink : Type 0} (O : OutputView Sink) (sink sink' : Sink)
    (result : Result Done RunFault) (same : I.failures read ≡ I.failures source) where
  -- What follows the first line was answered.
  pub served_after : (word : List ℕ) (IsText : List ℕ → List ℕ → Done → Type 0) → Follows word IsText IsExplainText
      → (I.is_known → after_word word (I.rest source) ≡ Some (I.rest read)) → IsServed IsText I read source' O sink sink' result
      → IsServed IsExplainText I source source' O sink sink' result
  served_after word IsText follows begins served = record {
    text = λ ki ko. adds_after word IsText IsExplainText (I.rest source) (I.rest read) (O.held sink) (O.held sink') result follows (begins ki) (served.text ki ko);
    front = λ ki ko. on_err_weaker result
        (front_as (IsText (I.rest read)) (IsExplainText (I.rest source)) (O.held sink) (O.held sink') (λ text done. follows (I.rest source) (I.rest read) text done (begins ki)))
        (served.front ki ko);
    left = λ ki. IfOk-weaker result _ _
        (λ done (needed, ahead, cut, few, (text, answered)).
        let whole = enough_after word (I.rest source) (I.rest read) (I.rest source') needed ahead (word_front word (I.rest source) (I.rest read) (begins ki)) cut in
        (whole.0, ahead, whole.1, few, (text, follows whole.0 needed text done whole.2 answered)))
        (served.left ki);
    whole = served.whole;
    reading = served.reading ∙ ap (read_failures result) same;
    writing = served.writing;
  }

  -- The script was answered.
  pub script_printed : (RulesText : List ℕ → List ℕ → Done → Type 0) → (I.is_known → PassesFirst Script (I.rest source) (I.rest read))
      → IsServed IsScriptExplained I read source' O sink sink' result
      → I.is_known → O.is_known → IfOk result (λ done. Adds (λ text. IsExplainedBy RulesText (I.rest source) text done) (O.held sink) (O.held sink'))
  script_printed RulesText begins served ki ko = IfOk-weaker result _ _
      (λ done adds. (
        adds.0,
        adds.1,
        of_script RulesText (I.rest source) adds.0 done (begins ki).0 (begins ki).1 (begins ki).2
            (subst (λ (xs : List ℕ). IsScriptExplained xs adds.0 done) (begins ki).3 adds.2),
      ))
      (served.text ki ko)

  pub served_script : (I.is_known → PassesFirst Script (I.rest source) (I.rest read)) → IsServed IsScriptExplained I read source' O sink sink' result
      → IsServed IsExplainText I source source' O sink sink' result
  served_script begins served = record {
    text = script_printed MayBeRulesExplained begins served;
    front = λ ki ko. on_err_weaker result
        (front_as (IsScriptExplained (I.rest read)) (IsExplainText (I.rest source)) (O.held sink) (O.held sink')
        (λ text done answered. of_script MayBeRulesExplained (I.rest source) text done (begins ki).0 (begins ki).1 (begins ki).2
        (subst (λ (xs : List ℕ). IsScriptExplained xs text done) (begins ki).3 answered)))
        (served.front ki ko);
    left = λ ki. IfOk-weaker result _ _
        (λ done (needed, ahead, cut, few, (text, answered)).
        let whole = sym (begins ki).3 ∙ cut in
        let again = front_answer (I.rest source) needed (ahead ++ I.rest source') whole (begins ki).0 (begins ki).1 (begins ki).2 text done answered
        (source_after needed) refl in
        (needed, ahead, whole, few, again))
        (served.left ki);
    whole = served.whole;
    reading = served.reading ∙ ap (read_failures result) same;
    writing = served.writing;
  }
