-- The text of a stored answer is one that the line of its cell may have.
use Rattle.std.proofs.Common.{◌≡◌, ℕ, ◌+◌, ◌<◌, ◌==◌, ◌≢◌, true, false, List, [], ◌∷◌, ◌++◌, length, get_or, map, take, Option, Some, None, IfSome, option_to_list, refl, ap, sym, subst, ◌∙◌, arith}
use Rattle.std.specs.Prelude.{MatchBool, MatchOption}
use Rattle.std.proofs.lemmas.Bool.Decides.{nat_tests}
use Rattle.std.proofs.lemmas.List.{map-append, take_more}
use Rattle.std.proofs.lemmas.List.Elements.{All-pop}
use Rattle.std.proofs.lemmas.Slice.Zip.{all_zipped_more}
use Rattle.gen_arena.specs.declared.id.Id.{Id}
use Rattle.leaky.specs.declared.verdict.Verdict.{Verdict}
use Rattle.leaky.specs.declared.verdict.Verdict.TheVariants.{Pass, Tag, Discard, Refuse}
use Rattle.upc_cell.specs.Connection.{vc_of}
use Rattle.upc_cell.specs.declared.side.Side.{Side}
use Rattle.upc_cell.specs.declared.side.Side.TheVariants.{Uni, Nni, UniPaths, NniPaths}
use Rattle.upc_cell.specs.declared.vc.Vc.{Vc}
use Rattle.line_record.specs.Tally.{nothing}
use Rattle.line_record.specs.declared.tally.Tally.{Tally}
use Rattle.card_core.specs.Sections.{judged_in_answer}
use Rattle.card_core.specs.Steps.{cell_after}
use Rattle.card_core.specs.declared.answer.Answer.{Answer}
use Rattle.card_core.specs.declared.answer.Answer.TheVariants.{Judged, NoConnection, Released, Stale, MomentTooLate, MomentBack, JournalFull, NoMemory}
use Rattle.port_card.specs.Answers.{IsJudgedAnswer}
use Rattle.text_io.specs.Words.{words_of}
use Rattle.text_words.specs.FaultLines.{bad_hex, bad_line, wrong_length}
use Rattle.text_words.specs.Hexadecimal.{octets_of_digits, cell_of_octets}
use Rattle.text_card.specs.Replies.{answer_text}
use Rattle.text_script.specs.ProgramNames.{number_of_program}
use Rattle.text_script.specs.ReplyTexts.{judging_text, verdict_text}
use Rattle.text_script.specs.ScriptCommands.{Command, cell, command_of}
use Rattle.cmd_ports.specs.LineAnswers.{Faults, MayAnswerCommand, MayAnswerLine, MayAnswerCell, MayAnswerOctets, Refuses}
use Rattle.text_script.specs.declared.cell_line.CellLineFault.{CellLineFault}
use Rattle.text_script.specs.declared.cell_line.CellLineFault.TheVariants.{BadLine, BadHex, WrongLength}
use Rattle.text_script.specs.declared.cell_line.CellLine.TheVariants.{IsFaulty}
use Rattle.cmd_ports.specs.declared.answered.AnsweredCell.{AnsweredCell}
use Rattle.cmd_ports.specs.inner.Arrivals.{AnswersPort, HasCell, IsStoredFrom, IsStoredOf}
use Rattle.text_script.specs.CellLine.{IsCellLine}
use Rattle.text_script.specs.Dealing.{is_cell_line}
use Rattle.cmd_ports.specs.inner.InOrder.{PrintsCell}
use Rattle.cmd_ports.specs.inner.Answered.{answer_kept, cell_counts, header_of, decision_kept, shown_cell}
use Rattle.cmd_ports.proofs.CountsLemmas.{same-counts}
use Rattle.cmd_ports.proofs.DeskLemmas.{bad-cell}

-- The header decides the connection.
same-vc : (side : Side) (octets : List ℕ) → vc_of side (shown_cell (header_of octets)) ≡ vc_of side octets
same-vc Uni octets = refl
same-vc Nni octets = refl
same-vc UniPaths octets = refl
same-vc NniPaths octets = refl

-- The line of a judged cell shows only its header.
same-verdict : (verdict : Verdict) (judging : List ℕ) (a b c d : ℕ) (rest : List ℕ)
    → verdict_text verdict judging (cell_after verdict (shown_cell (header_of (a ∷ b ∷ c ∷ d ∷ rest)))) ≡ verdict_text verdict judging (cell_after verdict (a ∷ b ∷ c ∷ d ∷ rest))
same-verdict Pass judging a b c d rest = refl
same-verdict Tag judging a b c d rest = refl
same-verdict Discard judging a b c d rest = refl
same-verdict Refuse judging a b c d rest = refl

same-judged : (octets : List ℕ) → length octets ≡ 52 → (verdict : Verdict) (judging : List ℕ)
    → verdict_text verdict judging (cell_after verdict (shown_cell (header_of octets))) ≡ verdict_text verdict judging (cell_after verdict octets)
same-judged [] whole verdict judging = absurd (omega (arith, whole))
same-judged (a ∷ []) whole verdict judging = absurd (omega (arith, whole))
same-judged (a ∷ b ∷ []) whole verdict judging = absurd (omega (arith, whole))
same-judged (a ∷ b ∷ c ∷ []) whole verdict judging = absurd (omega (arith, whole))
same-judged (a ∷ b ∷ c ∷ d ∷ rest) whole verdict judging = same-verdict verdict judging a b c d rest

same-answer : (side : Side) (all : List Id) (vc : Vc) (octets : List ℕ) (moment : ℕ) → length octets ≡ 52 → (answer : Answer) → IfSome (judged_in_answer answer) (IsJudgedAnswer octets moment)
    → answer_text side all vc (answer_kept (shown_cell (header_of octets)) (decision_kept answer)) ≡ answer_text side all vc answer
same-answer side all vc octets moment whole (Judged line number when value program verdict leaving) judged =
    let judging = judging_text side vc (number_of_program all program) value in
    ap (λ (t : List ℕ). Some t) (same-judged octets whole verdict judging ∙ ap (λ (l : List ℕ). verdict_text verdict judging l) (sym judged.leaves))
same-answer side all vc octets moment whole NoConnection judged = refl
same-answer side all vc octets moment whole Released judged = refl
same-answer side all vc octets moment whole Stale judged = refl
same-answer side all vc octets moment whole MomentTooLate judged = refl
same-answer side all vc octets moment whole (MomentBack last) judged = refl
same-answer side all vc octets moment whole JournalFull judged = refl
same-answer side all vc octets moment whole NoMemory judged = refl

-- The answer to a cell line without a cell.
abbrev pub fault_text : CellLineFault → List ℕ
fault_text BadLine = bad_line
fault_text BadHex = bad_hex
fault_text (WrongLength count) = wrong_length count

-- A line whose command is a cell of 52 octets.
polices-line : (side : Side) (all names : List Id) (words : List (List ℕ)) (moment : ℕ) (digits octets here : List ℕ) (text : List ℕ) (counts : Tally)
    → command_of side words ≡ Some (cell moment digits) → octets_of_digits digits ≡ Some octets → cell_of_octets octets ≡ here → length here ≡ 52
    → MayAnswerCell side all here moment text counts → MayAnswerLine side all words names text names counts
polices-line side all names words moment digits octets here text counts is spelled same whole polices =
    let at : MayAnswerOctets side all here moment text counts =
    subst (λ n. MatchBool (n == 52) (MayAnswerCell side all here moment text counts) (Faults (wrong_length (length here)) text counts)) (sym whole) polices in
    let of_octets : MayAnswerOctets side all (cell_of_octets octets) moment text counts =
    subst (λ (xs : List ℕ). MayAnswerOctets side all xs moment text counts) (sym same) at in
    let of_digits = subst (λ (found : Option (List ℕ)). MatchOption found (Faults bad_hex text counts) (λ xs. MayAnswerOctets side all (cell_of_octets xs) moment text counts)) (sym spelled) of_octets in
    subst (λ (found : Option Command). MatchOption found (Refuses bad_line names text names × (counts ≡ nothing)) (λ command. MayAnswerCommand side all command names text names counts))
    (sym is) (of_digits, refl)

pub stored-answered : (side : Side) (all names : List Id) (line : List ℕ) (one : AnsweredCell) (text : List ℕ) → IsStoredOf side line one
    → PrintsCell side all (Some one) text → MayAnswerLine side all (words_of line) names text names (cell_counts one)
stored-answered side all names line one text is prints =
    let digits = is.brings.0 in
    let word = is.brings.2 in
    let shown = shown_cell (header_of is.cell) in
    let prints' : answer_text side all (vc_of side shown) (answer_kept shown (decision_kept is.answer)) ≡ Some text =
    subst (λ (t : AnsweredCell). answer_text side all (vc_of side (shown_cell t.header)) (answer_kept (shown_cell t.header) t.decision) ≡ Some text) is.kept prints in
    polices-line side all names (words_of line) is.moment digits word.0 is.cell text (cell_counts one) is.brings.1 word.1 word.2 word.3
    (record {
      answer = is.answer;
      possible = is.possible;
      printed = sym (same-answer side all (vc_of side is.cell) is.cell is.moment word.3 is.answer is.possible.judged)
          ∙ ap (λ (vc : Vc). answer_text side all vc (answer_kept shown (decision_kept is.answer))) (sym (same-vc side is.cell)) ∙ prints';
      counted = ap cell_counts is.kept ∙ same-counts is.cell is.answer;
    })

-- A line whose command is a cell of another number of octets.
wrong-answered : (side : Side) (all names : List Id) (words : List (List ℕ)) (moment : ℕ) (digits octets : List ℕ) (count : ℕ)
    → command_of side words ≡ Some (cell moment digits) → octets_of_digits digits ≡ Some octets → length (cell_of_octets octets) ≡ count → count ≢ 52
    → MayAnswerLine side all words names (wrong_length count) names nothing
wrong-answered side all names words moment digits octets count is spelled counted other =
    let here = cell_of_octets octets in
    let differs : (length here == 52) ≡ false = grind (arith, nat_tests, counted, other) in
    let at : MayAnswerOctets side all here moment (wrong_length count) nothing =
    subst (λ whole. MatchBool whole (MayAnswerCell side all here moment (wrong_length count) nothing) (Faults (wrong_length (length here)) (wrong_length count) nothing)) (sym differs)
    (ap wrong_length (sym counted), refl) in
    let of_digits = subst (λ (found : Option (List ℕ)). MatchOption found (Faults bad_hex (wrong_length count) nothing) (λ xs. MayAnswerOctets side all (cell_of_octets xs) moment (wrong_length count) nothing)) (sym spelled) at in
    subst (λ (found : Option Command). MatchOption found (Refuses bad_line names (wrong_length count) names × (nothing ≡ nothing))
    (λ command. MayAnswerCommand side all command names (wrong_length count) names nothing))
    (sym is) (of_digits, refl)

-- A line that is no command.
pub no-command-answered : (side : Side) (all names : List Id) (line : List ℕ) → command_of side (words_of line) ≡ None
    → MayAnswerLine side all (words_of line) names bad_line names nothing
no-command-answered side all names line is =
    subst (λ (command : Option Command). MatchOption command (Refuses bad_line names bad_line names × (nothing ≡ nothing)) (λ c. MayAnswerCommand side all c names bad_line names nothing))
    (sym is) ((refl, refl), refl)

-- A cell line without a cell.
pub fault-answered : (side : Side) (all names : List Id) (line : List ℕ) (fault : CellLineFault) → is_cell_line (words_of line) ≡ true
    → IsCellLine (command_of side (words_of line)) (IsFaulty fault) → MayAnswerLine side all (words_of line) names (fault_text fault) names nothing
fault-answered side all names line BadLine is found = no-command-answered side all names line (bad-cell side (words_of line) is found)
fault-answered side all names line BadHex is found =
    let spelled = subst (λ (octets : Option (List ℕ)). MatchOption octets (Faults bad_hex bad_hex nothing) (λ xs. MayAnswerOctets side all (cell_of_octets xs) found.0 bad_hex nothing)) (sym found.1.2) (refl, refl) in
    subst (λ (command : Option Command). MatchOption command (Refuses bad_line names bad_hex names × (nothing ≡ nothing)) (λ c. MayAnswerCommand side all c names bad_hex names nothing))
    (sym found.1.1) (spelled, refl)
fault-answered side all names line (WrongLength count) is found =
    wrong-answered side all names (words_of line) found.0 found.1.0 found.1.2.0 count found.1.1 found.1.2.1 found.1.2.2 found.1.2.3

-- One more line of a port, with its stored answer or without a cell.
pub port-more : (side : Side) (xs : List (List ℕ)) (arrivals : List AnsweredCell) (line : List ℕ) (one : AnsweredCell) → AnswersPort side xs arrivals → IsStoredOf side line one
    → AnswersPort side (xs ++ line ∷ []) (arrivals ++ one ∷ [])
port-more side xs arrivals line one answers is = λ all.
    let parts = All-pop (HasCell side) (xs ++ line ∷ []) xs (Some line) refl all in
    all_zipped_more (IsStoredOf side) xs arrivals line one (answers parts.0) is

pub port-skips : (side : Side) (xs : List (List ℕ)) (arrivals : List AnsweredCell) (line : List ℕ) → (HasCell side line → ⊥)
    → AnswersPort side (xs ++ line ∷ []) arrivals
port-skips side xs arrivals line none = λ all.
    let parts = All-pop (HasCell side) (xs ++ line ∷ []) xs (Some line) refl all in absurd (none parts.1)

pub port-next : {X : Type 0} (v : X → List ℕ) (side : Side) (xs : List X) (k : ℕ) (d : X) (arrivals arrivals' : List AnsweredCell) (one : AnsweredCell) → k < length xs
    → arrivals' ≡ arrivals ++ one ∷ [] → AnswersPort side (map v (take k xs)) arrivals → IsStoredOf side (v (get_or xs k d)) one
    → AnswersPort side (map v (take (k + 1) xs)) arrivals'
port-next v side xs k d arrivals arrivals' one within pushed answers is =
    let x = get_or xs k d in
    let lines : map v (take (k + 1) xs) ≡ map v (take k xs) ++ v x ∷ [] = ap (map v) (take_more xs k d within) ∙ map-append v (take k xs) (x ∷ []) in
    subst (λ (zs : List (List ℕ)). AnswersPort side zs arrivals') (sym lines)
    (subst (AnswersPort side (map v (take k xs) ++ v x ∷ [])) (sym pushed) (port-more side (map v (take k xs)) arrivals (v x) one answers is))

pub port-same : {X : Type 0} (v : X → List ℕ) (side : Side) (xs : List X) (k : ℕ) (d : X) (arrivals : List AnsweredCell) → k < length xs
    → (HasCell side (v (get_or xs k d)) → ⊥) → AnswersPort side (map v (take (k + 1) xs)) arrivals
port-same v side xs k d arrivals within none =
    let x = get_or xs k d in
    let lines : map v (take (k + 1) xs) ≡ map v (take k xs) ++ v x ∷ [] = ap (map v) (take_more xs k d within) ∙ map-append v (take k xs) (x ∷ []) in
    subst (λ (zs : List (List ℕ)). AnswersPort side zs arrivals) (sym lines) (port-skips side (map v (take k xs)) arrivals (v x) none)

-- A line with an error has no cell.
pub faulty-no_cell : (side : Side) (line : List ℕ) (fault : CellLineFault) → IsCellLine (command_of side (words_of line)) (IsFaulty fault) → HasCell side line → ⊥
faulty-no_cell side line BadLine never (moment, here, brings) = never moment brings.0 brings.1
faulty-no_cell side line BadHex found (moment, here, brings) =
    let both : Some (cell moment brings.0) ≡ Some (cell found.0 found.1.0) = sym brings.1 ∙ found.1.1 in
    let same : brings.0 ≡ found.1.0 = cc in
    let no : None ≡ Some brings.2.0 = sym found.1.2 ∙ ap octets_of_digits (sym same) ∙ brings.2.1 in cc
faulty-no_cell side line (WrongLength count) found (moment, here, brings) =
    let both : Some (cell moment brings.0) ≡ Some (cell found.0 found.1.0) = sym brings.1 ∙ found.1.1 in
    let same : brings.0 ≡ found.1.0 = cc in
    let octets : Some brings.2.0 ≡ Some found.1.2.0 = sym brings.2.1 ∙ ap octets_of_digits same ∙ found.1.2.1 in
    let equal : brings.2.0 ≡ found.1.2.0 = cc in
    found.1.2.3 (sym found.1.2.2 ∙ ap (λ (xs : List ℕ). length (cell_of_octets xs)) (sym equal) ∙ ap length brings.2.2 ∙ brings.2.3)

pub port-step : {X : Type 0} (v : X → List ℕ) (side : Side) (xs : List X) (k : ℕ) (d : X) (arrivals arrivals' : List AnsweredCell) (found : Option AnsweredCell) → k < length xs
    → arrivals' ≡ arrivals ++ option_to_list found → AnswersPort side (map v (take k xs)) arrivals → IsStoredFrom side (v (get_or xs k d)) found
    → AnswersPort side (map v (take (k + 1) xs)) arrivals'
port-step v side xs k d arrivals arrivals' None within pushed answers is = port-same v side xs k d arrivals' within is
port-step v side xs k d arrivals arrivals' (Some one) within pushed answers is = port-next v side xs k d arrivals arrivals' one within pushed answers is
