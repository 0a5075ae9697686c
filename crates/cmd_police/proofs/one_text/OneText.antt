-- A setup script and a capture have one text.
use Rattle.std.proofs.Common.{◌≡◌, ℕ, ◌+◌, ◌≤◌, ◌<◌, ◌^◌, Bool, true, false, if◌then◌else◌, List, [], ◌∷◌, ◌++◌, length, drop, Option, Some, None, refl, sym, ◌∙◌, subst, arith, inl, inr}
use Rattle.captures.specs.Frames.{format_start, format_timed}
use Rattle.captures.specs.Opening.{file_opening}
use Rattle.captures.specs.declared.format.Format.{Format}
use Rattle.captures.specs.declared.format.Format.TheVariants.{Erf, Pcap, PcapNg}
use Rattle.captures.specs.declared.opening.Opening.{Opening}
use Rattle.captures.specs.declared.opening.Opening.TheVariants.{Opened, Undecided, Refused}
use Rattle.captures_text.proofs.CellsOfOctets.{one_cells}
use Rattle.captures_text.specs.CaptureText.{IsOpenedText, IsTextOfCells, short_fault}
use Rattle.captures_text.specs.CellFilter.{CellsEnd, Closes, FilterState, filter_start}
use Rattle.captures_text.specs.declared.captured_cell.CapturedCell.{CapturedCell}
use Rattle.gen_arena.specs.Slot.{greatest_generation}
use Rattle.text_io.specs.Limits.{most_input_lines}
use Rattle.text_io.specs.Lines.{Line, line_content, lines_of}
use Rattle.text_io.specs.Words.{is_silent, words_of}
use Rattle.text_io.specs.declared.ending.Done.{Done}
use Rattle.text_io.specs.declared.ending.Done.TheVariants.{Ended, Whole}
use Rattle.text_io.proofs.Public.{prints-end}
use Rattle.cmd_explain_script.proofs.OneExplanation.{explained_once}
use Rattle.cmd_explain_script.specs.ScriptText.{script_rules, before_script}
use Rattle.cmd_run.proofs.alike.SetUpAlike.{SetUpAlike, lines-few, set_up-alike}
use Rattle.cmd_run.specs.RunText.{Card}
use Rattle.cmd_police.specs.PoliceLaws.{PoliceTextsAreOne}
use Rattle.cmd_setups.specs.SetUpScripts.{IsFaultAtTimes, IsSetUpAtTimes}
use Rattle.cmd_police.specs.PoliceText.{PoliceWorld, police_rules, police_start}
use Rattle.cmd_police.specs.RuleColumn.{ShownRules}
use Rattle.cmd_setups.specs.TimedLines.{WaitingCommand, moment_of_time, octets_before_times, waiting_at, waiting_line}
use Rattle.cmd_police.specs.declared.scope.PoliceScope.{PoliceScope}
use Rattle.cmd_police.proofs.one_text.FramesFew.{cells_few}
use Rattle.cmd_police.proofs.one_text.RunsAlike.{StatesAlike, texts_alike}

-- ---- the setup script

-- A line waits once at most.
one_waits : (moment : ℕ) (content : List ℕ) → length (waiting_line moment content) ≤ 1
one_waits moment content = by (is_silent (words_of content))
  where
    by : (b : Bool) → length {A = WaitingCommand} (if b then [] else (record { moment = moment; content = content }) ∷ []) ≤ 1
    by true = omega arith
    by false = omega arith

joined_few : (one other : List WaitingCommand) (many : ℕ) → length one ≤ 1 → length other ≤ many → length (one ++ other) ≤ many + 1
joined_few [] other many few rest = omega (arith, rest)
joined_few (first ∷ []) other many few rest = omega (arith, rest)
joined_few (first ∷ second ∷ one) other many few rest = absurd (omega (arith, few))

pub waiting_few : (tick : ℕ) (times : List (Option ℕ)) (lines : List Line) → length (waiting_at tick times lines) ≤ length lines
waiting_few tick [] lines = omega arith
waiting_few tick (time ∷ times) [] = omega arith
waiting_few tick (None ∷ times) (first ∷ lines) = let rest = waiting_few tick times lines in omega (arith, rest)
waiting_few tick (Some time ∷ times) (first ∷ lines) =
    let rest = waiting_few tick times lines in
    let here = one_waits (moment_of_time tick time) (line_content first) in
    let both = joined_few (waiting_line (moment_of_time tick time) (line_content first)) (waiting_at tick times lines) (length lines) here rest in
    omega (arith, both)

-- A script without a fault has no more lines than an input may have.
pub script_few : (script : List ℕ) (times : List (Option ℕ)) (card : Card) → IsSetUpAtTimes script times card → length (lines_of script) ≤ most_input_lines
script_few script times card set_up =
    let ends = prints-end script_rules 0 before_script (lines_of script) set_up.explanation set_up.faultless in
    let none : 0 ≤ most_input_lines = omega arith in
    let few = lines-few script_rules (lines_of script) 0 before_script ends.0 set_up.explanation none ends.1 in
    omega (arith, few)

-- Both cards that a script sets up are alike.
pub set_up_alike : (script : List ℕ) (times : List (Option ℕ)) (one other : Card) → IsSetUpAtTimes script times one → IsSetUpAtTimes script times other → SetUpAlike one other
set_up_alike script times one other p q =
    set_up-alike (lines_of (octets_before_times times (lines_of script))) p.before.answers q.before.answers one other p.before.reached q.before.reached

-- The states at first, before this many cells.
start_alike : (scope : PoliceScope) (tick : ℕ) (rules : ShownRules) (script : List ℕ) (times : List (Option ℕ)) (one other : Card) → IsSetUpAtTimes script times one → IsSetUpAtTimes script times other
    → (cells : ℕ) → cells < 2 ^ 61
    → StatesAlike 2000000 (2 ^ 61 + 2000000) cells (police_start scope tick rules one (waiting_at tick times (lines_of script))) (police_start scope tick rules other (waiting_at tick times (lines_of script)))
start_alike scope tick rules script times one other set_up set_up' cells few =
    let waiting = waiting_few tick times (lines_of script) in
    let lines = script_few script times one set_up in
    let both = set_up_alike script times one other set_up set_up' in
    let most = both.most in
    let sides : one.world.shape.side ≡ other.world.shape.side = λ i. (both.cards.views.rest i).shape.side in
    record {
      met = both.met;
      most = both.met;
      cards = both.cards;
      lines_left = omega (arith, waiting, lines, most);
      counts_left = omega (arith, waiting, lines, most, few);
      rest = λ i. record (police_start scope tick rules other (waiting_at tick times (lines_of script))) {
        spans = record (police_start scope tick rules other (waiting_at tick times (lines_of script))).spans { side = sides i };
      };
    }

-- ---- the capture

pub start_near : (format : Format) → format_start format ≤ 2 ^ 64
start_near Erf = omega arith
start_near (Pcap order times) = omega arith
start_near (PcapNg section) = omega arith

module _ (scope : PoliceScope) (tick : ℕ) (rules : ShownRules) (script : List ℕ) (times : List (Option ℕ)) (octets : List ℕ) (card card' : Card)
    (set_up : IsSetUpAtTimes script times card) (set_up' : IsSetUpAtTimes script times card') where
  abbrev start : Card → PoliceWorld
  start first = police_start scope tick rules first (waiting_at tick times (lines_of script))

  abbrev filter : FilterState
  filter = filter_start tick scope.link scope.timing

  few : 2000000 < greatest_generation
  few = omega arith

  unworn : 2 ^ 61 + 2000000 < 2 ^ 62
  unworn = omega arith

  cells_one : (cells cells' : List CapturedCell) (end end' : CellsEnd) (text text' : List ℕ) (done done' : Done) → cells ≡ cells' → end ≡ end' → length cells < 2 ^ 61
      → IsTextOfCells police_rules (start card) cells end text done → IsTextOfCells police_rules (start card') cells' end' text' done' → (text ≡ text') × (done ≡ done')
  cells_one cells cells' end end' text text' done done' same ends few_cells p q =
      texts_alike 2000000 (2 ^ 61 + 2000000) few unworn cells end (start card) (start card') text text' done done'
      (start_alike scope tick rules script times card card' set_up set_up' (length cells) few_cells) p
      (subst (λ (xs : List CapturedCell). IsTextOfCells police_rules (start card') xs end text' done') (sym same)
      (subst (λ (e : CellsEnd). IsTextOfCells police_rules (start card') cells' e text' done') (sym ends) q))

  opened_one : (opening : Opening) (text text' : List ℕ) (done done' : Done)
      → IsOpenedText police_rules filter (start card) octets opening text done → IsOpenedText police_rules filter (start card') octets opening text' done'
      → (text ≡ text') × (done ≡ done')
  opened_one (Opened format) text text' done done' p q =
      let timed = format_timed scope.timing format in
      let later = drop (format_start format) octets in
      let same = one_cells filter timed 0 (format_start format) later p.0 q.0 p.1 q.1 p.2 q.2 in
      let few_cells = cells_few filter timed 0 (format_start format) later p.0 p.1 (start_near format) p.2 in
      cells_one p.0 q.0 p.1 q.1 text text' done done' same.0 same.1 few_cells p.3 q.3
  opened_one Undecided text text' done done' p q =
      let none : 0 < 2 ^ 61 = omega arith in
      cells_one [] [] (Closes filter.summary (Some (short_fault octets))) (Closes filter.summary (Some (short_fault octets))) text text' done done' refl refl none p q
  opened_one (Refused fault) text text' done done' p q = (p.0 ∙ sym q.0, p.1 ∙ sym q.1)

-- ---- the faults of the script

pub faults_once : (script : List ℕ) (times : List (Option ℕ)) (one other : List ℕ) → IsFaultAtTimes script times one → IsFaultAtTimes script times other → one ≡ other
faults_once script times one other (inl p) (inl q) = (explained_once script one other Ended Ended p q).0
faults_once script times one other (inl p) (inr q) = let never = (explained_once script one q.0 Ended Whole p q.1).1 in absurd (cc)
faults_once script times one other (inr p) (inl q) = let never = (explained_once script p.0 other Whole Ended p.1 q).1 in absurd (cc)
faults_once script times one other (inr p) (inr q) = (explained_once (octets_before_times times (lines_of script)) one other Ended Ended p.2 q.2).0

-- A script that sets up a card has no fault.
pub never_both : (script : List ℕ) (times : List (Option ℕ)) (text : List ℕ) (card : Card) → IsFaultAtTimes script times text → IsSetUpAtTimes script times card → ⊥
never_both script times text card (inl fault) set_up =
    let never = (explained_once script text set_up.explanation Ended Whole fault set_up.faultless).1 in absurd (cc)
never_both script times text card (inr fault) set_up =
    let never = (explained_once (octets_before_times times (lines_of script)) text set_up.before.explanation Ended Whole fault.2 set_up.before.faultless).1 in absurd (cc)

pub policed_once : PoliceTextsAreOne
policed_once scope tick rules script times octets one other ends other_ends (inl p) (inl q) = (faults_once script times one other p.0 q.0, p.1 ∙ sym q.1)
policed_once scope tick rules script times octets one other ends other_ends (inl p) (inr q) = absurd (never_both script times one q.0 p.0 q.1)
policed_once scope tick rules script times octets one other ends other_ends (inr p) (inl q) = absurd (never_both script times other p.0 q.0 p.1)
policed_once scope tick rules script times octets one other ends other_ends (inr p) (inr q) =
    opened_one scope tick rules script times octets p.0 q.0 p.1 q.1 (file_opening octets) one other ends other_ends p.2 q.2
