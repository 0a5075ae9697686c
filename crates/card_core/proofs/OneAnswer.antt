-- The headline leaves one answer.
use Rattle.std.proofs.Common.{◌≡◌, ℕ, true, List, [], ◌∷◌, ◌++◌, append_assoc, refl, sym, ap, ◌∙◌, subst}
use Rattle.std.proofs.lemmas.Bool.{eq-eqb}
use Rattle.upc_cell.specs.declared.vc.Vc.{Vc}
use Rattle.upc_cell.specs.Connection.{vc_of, is_same_vc}
use Rattle.upc_cell.proofs.Public.{vc_itself}
use Rattle.bpf_code.specs.declared.instr.Instr.{Instr}
use Rattle.bpf_interp.proofs.Public.{Value-unique}
use Rattle.gen_arena.specs.declared.id.Id.{Id}
use Rattle.gen_arena.proofs.Public.{id_itself}
use Rattle.leaky.specs.declared.verdict.Verdict.{Verdict}
use Rattle.line_record.specs.History.{empty_buckets, verdict_after}
use Rattle.card_core.specs.declared.ask.Ask.{Ask}
use Rattle.card_core.specs.declared.shape.Shape.{Shape}
use Rattle.card_core.specs.declared.step.Step.{Step}
use Rattle.card_core.specs.declared.step.Step.TheVariants.{Enter, Load, Setup}
use Rattle.card_core.specs.Judged.{JudgedView}
use Rattle.card_core.specs.Steps.{Gives, cell_after, named_cell, number_with}
use Rattle.card_core.specs.Log.{Event}
use Rattle.card_core.specs.Headline.{moves, changes, loads, program_after, cells_judged_on, verdicts_on, entering, picking, setting_up, loading, HasEntered, IsInForceSince, IsLoadedOnce, IsPromised}
use Rattle.card_core.specs.Laws.{PromisesLeaveOneAnswer}
use Rattle.card_core.proofs.LogLemmas.{one-cut}

-- The step and the reply of an event.

cell_entered : Step → List ℕ
cell_entered (Enter port cell moment) = cell
cell_entered _ = []

moment_entered : Step → ℕ
moment_entered (Enter port cell moment) = moment
moment_entered _ = 0

ask_of : Ask → Step → Ask
ask_of default (Setup ask) = ask
ask_of default _ = default

code_of : Step → List Instr
code_of (Load code) = code
code_of _ = []

one_cell : (port other : ℕ) (cell another : List ℕ) (moment later : ℕ) → entering port cell moment ≡ entering other another later
    → (cell ≡ another) × (moment ≡ later)
unfolding cell_entered moment_entered
one_cell port other cell another moment later e =
    (ap (λ (event : Event). cell_entered event.step) e, ap (λ (event : Event). moment_entered event.step) e)

one_ask : (ask other : Ask) (incarnation another : ℕ) → setting_up ask incarnation ≡ setting_up other another → ask ≡ other
unfolding ask_of
one_ask ask other incarnation another e = ap (λ (event : Event). ask_of ask event.step) e

one_code : (code other : List Instr) (id another : Id) → loading code id ≡ loading other another → code ≡ other
unfolding code_of
one_code code other id another e = ap (λ (event : Event). code_of event.step) e

-- The cell that entered a port last.
one-entered : (log : List Event) (port : ℕ) (cell other : List ℕ) (moment later : ℕ) → HasEntered log port cell moment
    → HasEntered log port other later → (cell ≡ other) × (moment ≡ later)
one-entered log port cell other moment later one another =
    let cut = one-cut (moves port) one.earlier another.earlier (entering port cell moment) (entering port other later)
    one.later another.later (eq-eqb port port refl) (eq-eqb port port refl) one.alone another.alone (sym one.cut ∙ another.cut) in
    one_cell port port cell other moment later cut.events

-- The setup since which a connection exists.

own-change : (vc : Vc) (ask : Ask) (incarnation : ℕ) → ask.vc ≡ vc → changes vc (setting_up ask incarnation) ≡ true
own-change vc ask incarnation same = subst (λ (v : Vc). is_same_vc vc v ≡ true) (sym same) (vc_itself vc)

pub one-in_force : (log : List Event) (vc : Vc) (ask other : Ask) (since later : List Event) → IsInForceSince log vc ask since
    → IsInForceSince log vc other later → (ask ≡ other) × (since ≡ later)
one-in_force log vc ask other since later one another =
    let cut = one-cut (changes vc) one.earlier another.earlier (setting_up ask one.incarnation) (setting_up other another.incarnation)
    since later (own-change vc ask one.incarnation one.asked) (own-change vc other another.incarnation another.asked)
    one.unchanged another.unchanged (sym one.cut ∙ another.cut) in
    (one_ask ask other one.incarnation another.incarnation cut.events, cut.ends)

-- The code that was loaded under an id.
one-loaded : (log : List Event) (id : Id) (code other : List Instr) → IsLoadedOnce log id code → IsLoadedOnce log id other
    → code ≡ other
one-loaded log id code other one another =
    let cut = one-cut (loads id) one.earlier another.earlier (loading code id) (loading other id) one.later another.later
    (id_itself id) (id_itself id) one.last another.last (sym one.cut ∙ another.cut) in
    one_code code other id id cut.events

-- The parts of the log of a promise.

module _ (shape : Shape) (before : List Event) (port : ℕ) (judged : JudgedView) (p : IsPromised shape before port judged) where
  -- The events before the pick, and those since the setup.
  abbrev at_pick : List Event
  at_pick = p.earlier ++ setting_up p.ask p.incarnation ∷ p.until

  abbrev unchanged : List Event
  unchanged = p.until ++ picking port ∷ p.since

  cut-at_pick : before ≡ at_pick ++ picking port ∷ p.since
  cut-at_pick = p.parts ∙ sym (append_assoc p.earlier (setting_up p.ask p.incarnation ∷ p.until) (picking port ∷ p.since))

  in_force : IsInForceSince before p.ask.vc p.ask unchanged
  in_force = record {
    earlier = p.earlier;
    incarnation = p.incarnation;
    asked = refl;
    cut = p.parts;
    unchanged = p.unchanged;
  }

-- Two promises for one port after the same events.

module _ (shape : Shape) (before : List Event) (port : ℕ) (one other : JudgedView) (p : IsPromised shape before port one) (q : IsPromised shape before port other) where
  abbrev at_first : List Event
  at_first = at_pick shape before port one p

  abbrev at_second : List Event
  at_second = at_pick shape before port other q

  abbrev since_first : List Event
  since_first = unchanged shape before port one p

  abbrev since_second : List Event
  since_second = unchanged shape before port other q

  -- Both cells were picked in one event and entered in one event.
  one-pick : at_first ≡ at_second
  one-pick =
      (one-cut (moves port) at_first at_second (picking port) (picking port) p.since q.since
      (eq-eqb port port refl) (eq-eqb port port refl) p.alone q.alone
      (sym (cut-at_pick shape before port one p) ∙ cut-at_pick shape before port other q)).fronts

  one-arrival : (p.came ≡ q.came) × (one.moment ≡ other.moment)
  one-arrival =
      one-entered at_first port p.came q.came one.moment other.moment p.arrived
      (subst (λ (l : List Event). HasEntered l port q.came other.moment) (sym one-pick) q.arrived)

  -- Both are of one connection, which names one program at the pick.
  one-vc : p.ask.vc ≡ q.ask.vc
  one-vc = p.own ∙ ap (vc_of shape.side) one-arrival.0 ∙ sym q.own

  one-asked : (p.ask ≡ q.ask) × (since_first ≡ since_second)
  one-asked =
      one-in_force before p.ask.vc p.ask q.ask since_first since_second (in_force shape before port one p)
      (subst (λ (v : Vc). IsInForceSince before v q.ask since_second) (sym one-vc) (in_force shape before port other q))

  one-until : p.until ≡ q.until
  one-until =
      (one-cut (moves port) p.until q.until (picking port) (picking port) p.since q.since
      (eq-eqb port port refl) (eq-eqb port port refl) p.alone q.alone one-asked.1).fronts

  one-program : one.program ≡ other.program
  one-program =
      p.named
      ∙ ap (λ (a : Ask). program_after a.vc a.program p.until) one-asked.0
      ∙ ap (program_after q.ask.vc q.ask.program) one-until
      ∙ sym q.named

  -- The program gives one value.
  same-code : p.code ≡ q.code
  same-code =
      let mine : IsLoadedOnce (at_first ++ []) one.program p.code = (p.live [] (picking port ∷ p.since) refl).loaded in
      let theirs : IsLoadedOnce (at_second ++ []) other.program q.code = (q.live [] (picking port ∷ q.since) refl).loaded in
      one-loaded (at_first ++ []) one.program p.code q.code mine
      (subst (λ (l : List Event). IsLoadedOnce (l ++ []) one.program q.code) (sym one-pick)
      (subst (λ (id : Id). IsLoadedOnce (at_second ++ []) id q.code) (sym one-program) theirs))

  one-value : one.value ≡ other.value
  one-value =
      let theirs : Gives p.code p.came other.value =
      subst (λ (code : List Instr). Gives code p.came other.value) (sym same-code)
      (subst (λ came. Gives q.code came other.value) (sym one-arrival.0) q.gives) in
      (Value-unique p.code p.came one.value other.value p.gives.0 theirs.0 p.gives.1 theirs.1).0

  -- Both have one history, so they have one verdict.
  one-history : p.history ≡ q.history
  one-history = p.cells ∙ ap (λ (a : Ask). cells_judged_on shape a.vc since_first) one-asked.0 ∙ ap (cells_judged_on shape q.ask.vc) one-asked.1 ∙ sym q.cells

  one-verdict : one.verdict ≡ other.verdict
  one-verdict =
      p.decided
      ∙ ap (λ (a : Ask). verdict_after a.contracts.items empty_buckets p.history (named_cell p.came one.moment one.program one.value)) one-asked.0
      ∙ ap (λ history. verdict_after q.ask.contracts.items empty_buckets history (named_cell p.came one.moment one.program one.value)) one-history
      ∙ ap (λ came. verdict_after q.ask.contracts.items empty_buckets q.history (named_cell came one.moment one.program one.value)) one-arrival.0
      ∙ ap (λ m. verdict_after q.ask.contracts.items empty_buckets q.history (named_cell q.came m one.program one.value)) one-arrival.1
      ∙ ap (λ id. verdict_after q.ask.contracts.items empty_buckets q.history (named_cell q.came other.moment id one.value)) one-program
      ∙ ap (λ v. verdict_after q.ask.contracts.items empty_buckets q.history (named_cell q.came other.moment other.program v)) one-value
      ∙ sym q.decided

  one-leaving : one.cell ≡ other.cell
  one-leaving = p.left ∙ ap (λ v. cell_after v p.came) one-verdict ∙ ap (cell_after other.verdict) one-arrival.0 ∙ sym q.left

  -- On one line they have one number.
  one-number : one.line ≡ other.line → one.number ≡ other.number
  one-number same =
      p.counted ∙ ap (λ line. number_with (verdicts_on line before) one.verdict) same
      ∙ ap (number_with (verdicts_on other.line before)) one-verdict ∙ sym q.counted

abbrev judged_as : ℕ → ℕ → ℕ → ℕ → Id → Verdict → List ℕ → JudgedView
judged_as line number moment value program verdict cell = record {
  line = line;
  number = number;
  moment = moment;
  value = value;
  program = program;
  verdict = verdict;
  cell = cell;
}

pub one-answer : PromisesLeaveOneAnswer
one-answer shape before port one other p q same =
    ap (λ line. judged_as line one.number one.moment one.value one.program one.verdict one.cell) same
    ∙ ap (λ number. judged_as other.line number one.moment one.value one.program one.verdict one.cell) (one-number shape before port one other p q same)
    ∙ ap (λ moment. judged_as other.line other.number moment one.value one.program one.verdict one.cell) (one-arrival shape before port one other p q).1
    ∙ ap (λ value. judged_as other.line other.number other.moment value one.program one.verdict one.cell) (one-value shape before port one other p q)
    ∙ ap (λ program. judged_as other.line other.number other.moment other.value program one.verdict one.cell) (one-program shape before port one other p q)
    ∙ ap (λ verdict. judged_as other.line other.number other.moment other.value other.program verdict one.cell) (one-verdict shape before port one other p q)
    ∙ ap (λ cell. judged_as other.line other.number other.moment other.value other.program other.verdict cell) (one-leaving shape before port one other p q)
