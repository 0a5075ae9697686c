-- What `forward` writes of a capture, and what it reports, is one.
use Rattle.std.proofs.Common.{inl, inr, ◌≡◌, ◌<◌, ◌+◌, ◌^◌, ℕ, List, [], ◌∷◌, ◌++◌, length, drop, Option, Some, Result, Ok, Err, arith, refl, ◌∙◌, sym, ap, subst}
use Rattle.std.specs.Result.{MatchResult}
use Rattle.captures.specs.Frames.{format_start}
use Rattle.captures.specs.Opening.{file_opening}
use Rattle.captures.specs.declared.fault.Fault.{Fault}
use Rattle.captures.specs.declared.link.Link.{Link}
use Rattle.captures.specs.declared.opening.Opening.{Opening}
use Rattle.captures.specs.declared.opening.Opening.TheVariants.{Opened, Undecided, Refused}
use Rattle.captures.specs.declared.reader.SkippedBlock.{SkippedBlock}
use Rattle.captures.specs.declared.reader.Record.{Record}
use Rattle.captures_text.specs.CaptureText.{short_fault}
use Rattle.captures_text.specs.CellFilter.{FilterState, filter_block, filter_record}
use Rattle.captures_text.specs.RunLines.{several_line}
use Rattle.captures_text.specs.declared.captured_cell.CapturedCell.{CapturedCell}
use Rattle.captures_text.specs.declared.filter.Filtered.{Filtered}
use Rattle.captures_text.specs.declared.filter.Filtered.TheVariants.{Counts, Skipped, SecondLink}
use Rattle.text_io.specs.Lines.{lines_of}
use Rattle.text_io.specs.declared.ending.Done.{Done}
use Rattle.text_io.specs.declared.ending.Done.TheVariants.{Ended}
use Rattle.cmd_run.specs.RunText.{Card}
use Rattle.cmd_police.proofs.one_text.FramesFew.{frames_few}
use Rattle.cmd_police.proofs.one_text.OneText.{faults_once, never_both, start_near}
use Rattle.cmd_police.proofs.one_text.PolicedAlike.{PolicedAlike, cell_judged_alike, reports_alike, starts_alike}
use Rattle.cmd_setups.specs.SetUpScripts.{IsSetUpAtTimes}
use Rattle.cmd_police.specs.PolicedCards.{PolicedWorld, policed_start}
use Rattle.cmd_setups.specs.TimedLines.{waiting_at}
use Rattle.cmd_forward.proofs.one_output.FramesOnce.{are_read, as_many, givens, one_frames, written_once}
use Rattle.cmd_forward.specs.ForwardLaws.{ForwardedOnce}
use Rattle.cmd_forward.specs.ForwardText.{forward_rules, onward_by}
use Rattle.cmd_forward.specs.Forwarding.{Forwards, ForwardsOpened, ForwardState, WritesFiltered, WritesFrame, forward_start}
use Rattle.cmd_forward.specs.FramesRead.{FrameRead}
use Rattle.cmd_forward.specs.RecordsWritten.{IsCellWritten}
use Rattle.cmd_forward.specs.declared.onward.Onward.{Onward}
use Rattle.cmd_forward.specs.declared.others.Others.{Others}

-- Before this many frames: the filters are equal, and the states of the cards are alike.
pub record RunsAlike (left : ℕ) (one other : ForwardState PolicedWorld) : Type 0 where
  pub filters : one.filter ≡ other.filter
  pub states : PolicedAlike left one.world other.world

-- Both go on from states that are alike, or both end with the same report.
abbrev LeadOn : ℕ → Result (ForwardState PolicedWorld) (List ℕ) → Result (ForwardState PolicedWorld) (List ℕ) → Type 0
LeadOn left (Ok one) (Ok other) = RunsAlike left one other
LeadOn left (Err one) (Err other) = one ≡ other
LeadOn left (Ok one) (Err other) = ⊥
LeadOn left (Err one) (Ok other) = ⊥

lead_on : (left : ℕ) (next next' known known' : Result (ForwardState PolicedWorld) (List ℕ)) → next ≡ known → next' ≡ known' → LeadOn left known known' → LeadOn left next next'
lead_on left next next' known known' e e' leads =
    subst (λ (n : Result (ForwardState PolicedWorld) (List ℕ)). LeadOn left n next') (sym e)
    (subst (λ (n : Result (ForwardState PolicedWorld) (List ℕ)). LeadOn left known n) (sym e') leads)

-- One more frame may have no cell.
one_less : (left : ℕ) (one other : PolicedWorld) → PolicedAlike (left + 1) one other → PolicedAlike left one other
one_less left one other alike = record {
  met = alike.met;
  most = alike.most;
  cards = alike.cards;
  lines_left = alike.lines_left;
  counts_left = let now = alike.counts_left in omega (arith, now);
  rest = alike.rest;
}

module _ (others : Others) where
  filtered_once : (left : ℕ) (one other : PolicedWorld) → PolicedAlike (left + 1) one other → (number : ℕ) (octets : List ℕ) (filtered : Filtered) (filter : FilterState)
      (here here' : List ℕ) (next next' : Result (ForwardState PolicedWorld) (List ℕ))
      → WritesFiltered forward_rules others one number octets filtered filter here next → WritesFiltered forward_rules others other number octets filtered filter here' next'
      → (here ≡ here') × LeadOn left next next'
  filtered_once left one other alike number octets (Counts moment cell) filter here here' next next' p q =
      let captured : CapturedCell = record { number = number; moment = moment; cell = cell } in
      let judged = cell_judged_alike left one other captured p.2.0 q.2.0 p.1 q.1 alike p.2.1 q.2.1 in
      let onwards : p.0 ≡ q.0 = p.2.2 ∙ ap onward_by judged.verdicts ∙ sym q.2.2 in (
        written_once q.0 octets here here' (subst (λ (onward : Onward). IsCellWritten onward octets here) onwards p.3) q.3,
        lead_on left next next' (Ok (record { filter = filter; world = p.1 })) (Ok (record { filter = filter; world = q.1 })) p.4 q.4 (record { filters = refl; states = judged.states }),
      )
  filtered_once left one other alike number octets Skipped filter here here' next next' p q = (
    p.0 ∙ sym q.0,
    lead_on left next next' (Ok (record { filter = filter; world = one })) (Ok (record { filter = filter; world = other })) p.1 q.1
        (record { filters = refl; states = one_less left one other alike }),
  )
  filtered_once left one other alike number octets (SecondLink link link') filter here here' next next' p q =
      (p.0 ∙ sym q.0, lead_on left next next' (Err (several_line link link')) (Err (several_line link link')) p.1 q.1 refl)

  frame_once : (left : ℕ) (filter : FilterState) (one other : PolicedWorld) → PolicedAlike (left + 1) one other → (given : Result Record SkippedBlock) (octets here here' : List ℕ)
      (next next' : Result (ForwardState PolicedWorld) (List ℕ))
      → WritesFrame forward_rules others (record { filter = filter; world = one }) given octets here next
      → WritesFrame forward_rules others (record { filter = filter; world = other }) given octets here' next'
      → (here ≡ here') × LeadOn left next next'
  frame_once left filter one other alike (Err block) octets here here' next next' p q = (
    p.0 ∙ sym q.0,
    lead_on left next next' (Ok (record { filter = filter_block filter block; world = one })) (Ok (record { filter = filter_block filter block; world = other })) p.1 q.1
        (record { filters = refl; states = one_less left one other alike }),
  )
  frame_once left filter one other alike (Ok record_read) octets here here' next next' p q =
      filtered_once left one other alike record_read.number octets (filter_record filter record_read).0 (filter_record filter record_read).1 here here' next next' p q

  abbrev AreOne : List ℕ → List ℕ → List ℕ → List ℕ → Done → Done → Type 0
  AreOne text text' report report' done done' = (text ≡ text') × (report ≡ report') × (done ≡ done')

  abbrev GoesOn : List FrameRead → Option Fault → Result (ForwardState PolicedWorld) (List ℕ) → List ℕ → List ℕ → Done → Type 0
  GoesOn frames ending next more report done =
      MatchResult next (λ after. Forwards forward_rules others after frames ending more report done) (λ last. (more ≡ []) × (report ≡ last) × (done ≡ Ended))

  frames_once : (frames : List FrameRead) (ending : Option Fault) (one other : ForwardState PolicedWorld) → RunsAlike (length frames) one other
      → (text text' report report' : List ℕ) (done done' : Done)
      → Forwards forward_rules others one frames ending text report done → Forwards forward_rules others other frames ending text' report' done'
      → AreOne text text' report report' done done'
  frames_once [] ending one other alike text text' report report' done done' p q =
      let reports = reports_alike 0 one.world other.world alike.states one.filter.summary ending
      ∙ ap (λ (f : FilterState). forward_rules.closes other.world f.summary ending) alike.filters in
      (p.0 ∙ sym q.0, p.1 ∙ reports ∙ sym q.1, p.2 ∙ sym q.2)
  frames_once (read ∷ frames) ending one other alike text text' report report' done done' p q =
      let states : PolicedAlike (length frames + 1) one.world other.world = subst (λ n. PolicedAlike n one.world other.world) (omega arith) alike.states in
      let steps : WritesFrame forward_rules others (record { filter = one.filter; world = other.world }) read.given read.octets q.0 q.2 =
      subst (λ (f : FilterState). WritesFrame forward_rules others (record { filter = f; world = other.world }) read.given read.octets q.0 q.2) (sym alike.filters) q.4 in
      let here = frame_once (length frames) one.filter one.world other.world states read.given read.octets p.0 q.0 p.2 q.2 p.4 steps in
      let rest = later (λ v w is more more' a b. frames_once frames ending v w is more more' report report' done done' a b) p.2 q.2 here.1 p.1 q.1 p.5 q.5 in
      (p.3 ∙ ap (λ xs. xs ++ p.1) here.0 ∙ ap (λ xs. q.0 ++ xs) rest.0 ∙ sym q.3, rest.1, rest.2)
    where
      Later : Type 0
      Later = (v w : ForwardState PolicedWorld) → RunsAlike (length frames) v w → (more more' : List ℕ) → Forwards forward_rules others v frames ending more report done
          → Forwards forward_rules others w frames ending more' report' done' → AreOne more more' report report' done done'

      later : Later → (next next' : Result (ForwardState PolicedWorld) (List ℕ)) → LeadOn (length frames) next next' → (more more' : List ℕ)
          → GoesOn frames ending next more report done → GoesOn frames ending next' more' report' done' → AreOne more more' report report' done done'
      later go (Ok v) (Ok w) leads more more' a b = go v w leads more more' a b
      later go (Ok v) (Err last) leads more more' a b = absurd leads
      later go (Err last) (Ok w) leads more more' a b = absurd leads
      later go (Err last) (Err last') leads more more' a b = (a.0 ∙ sym b.0, a.1 ∙ leads ∙ sym b.1, a.2 ∙ sym b.2)

  -- A file that is this.
  opened_once : (tick : ℕ) (link : Option Link) (script : List ℕ) (times : List (Option ℕ)) (octets : List ℕ) (one other : Card)
      → IsSetUpAtTimes script times one → IsSetUpAtTimes script times other → (opening : Opening) (text text' report report' : List ℕ) (done done' : Done)
      → ForwardsOpened forward_rules others (forward_start tick link (policed_start tick one (waiting_at tick times (lines_of script)))) octets opening text report done
      → ForwardsOpened forward_rules others (forward_start tick link (policed_start tick other (waiting_at tick times (lines_of script)))) octets opening text' report' done'
      → AreOne text text' report report' done done'
  opened_once tick link script times octets one other set_up set_up' (Opened format) text text' report report' done done' p q =
      let later = drop (format_start format) octets in
      let first = forward_start tick link (policed_start tick one (waiting_at tick times (lines_of script))) in
      let second = forward_start tick link (policed_start tick other (waiting_at tick times (lines_of script))) in
      let same = one_frames format 0 (format_start format) later p.0 q.0 p.1 q.1 p.2 q.2 in
      let many = as_many p.0 in
      let near = frames_few (givens p.0) format 0 (format_start format) later p.1 (start_near format) (are_read p.0 format 0 (format_start format) later p.1 p.2) in
      let few : length p.0 < 2 ^ 61 = omega (arith, many, near) in
      frames_once p.0 p.1 first second (record { filters = refl; states = starts_alike tick script times one other set_up set_up' (length p.0) few }) text text' report report' done done' p.3
      (subst (λ (frames : List FrameRead). Forwards forward_rules others second frames p.1 text' report' done') (sym same.0)
      (subst (λ (ending : Option Fault). Forwards forward_rules others second q.0 ending text' report' done') (sym same.1) q.3))
  opened_once tick link script times octets one other set_up set_up' Undecided text text' report report' done done' p q =
      let first = forward_start tick link (policed_start tick one (waiting_at tick times (lines_of script))) in
      let none : 0 < 2 ^ 61 = omega arith in
      let reports = reports_alike 0 (policed_start tick one (waiting_at tick times (lines_of script))) (policed_start tick other (waiting_at tick times (lines_of script)))
      (starts_alike tick script times one other set_up set_up' 0 none) first.filter.summary (Some (short_fault octets)) in
      (p.0 ∙ sym q.0, p.1 ∙ reports ∙ sym q.1, p.2 ∙ sym q.2)
  opened_once tick link script times octets one other set_up set_up' (Refused fault) text text' report report' done done' p q = (p.0 ∙ sym q.0, p.1 ∙ sym q.1, p.2 ∙ sym q.2)

pub forwarded_once : ForwardedOnce
forwarded_once others tick link script times octets one other report other_report ends other_ends (inl p) (inl q) =
    (p.0 ∙ sym q.0, faults_once script times report other_report p.1 q.1, p.2 ∙ sym q.2)
forwarded_once others tick link script times octets one other report other_report ends other_ends (inl p) (inr q) = absurd (never_both script times report q.0 p.1 q.1)
forwarded_once others tick link script times octets one other report other_report ends other_ends (inr p) (inl q) = absurd (never_both script times other_report p.0 q.1 p.1)
forwarded_once others tick link script times octets one other report other_report ends other_ends (inr p) (inr q) =
    opened_once others tick link script times octets p.0 q.0 p.1 q.1 (file_opening octets) one other report other_report ends other_ends p.2 q.2
