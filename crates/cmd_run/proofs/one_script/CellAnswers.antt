-- If the views of two cards are equal, a cell has the same answer on both.
use Rattle.std.proofs.Common.{◌≡◌, ℕ, ◌^◌, ◌<◌, Bool, true, false, if◌then◌else◌, List, [], length, map, drop, Option, Some, None, is_some, nat_lt, nat_le, option_map, codes, refl, sym, ap, ◌∙◌, subst, arith}
use Rattle.std.specs.Option.{MatchOption}
use Rattle.std.proofs.lemmas.Bool.{lt-leb}
use Rattle.std.proofs.lemmas.Option.{same_Some}
use Rattle.upc_cell.specs.Connection.{vc_of}
use Rattle.upc_cell.specs.declared.side.Side.{Side}
use Rattle.upc_cell.specs.declared.vc.Vc.{Vc}
use Rattle.bpf_code.specs.declared.instr.Instr.{Instr}
use Rattle.gen_arena.specs.declared.id.Id.{Id}
use Rattle.leaky.specs.declared.verdict.Verdict.{Verdict}
use Rattle.line_record.specs.History.{NamedCell, empty_buckets, last_moment, verdict_after}
use Rattle.card_core.specs.Refusals.{cell_refusal}
use Rattle.card_core.specs.Steps.{Gives, cell_after, judged_answer, named_cell, picking_of}
use Rattle.card_core.specs.World.{Connection, World, code_in, connection_in, kept_cells}
use Rattle.card_core.specs.inner.Sound.{WorldInvariant}
use Rattle.card_core.specs.declared.answer.Answer.{Answer}
use Rattle.card_core.specs.declared.answer.Answer.TheVariants as answer
use Rattle.text_card.specs.CardFaults.{arrive_fault}
use Rattle.text_card.specs.Replies.{answer_text}
use Rattle.text_script.specs.ReplyTexts.{judging_text, verdict_text}
use Rattle.text_script.specs.ProgramNames.{number_of_program}
use Rattle.cmd_run.proofs.one_script.CellSteps.{CellCase, judged, judged_seen, missed, picked_world, refused, seen_cell}
use Rattle.cmd_run.proofs.one_script.ConnectionSteps.{found-there}
use Rattle.cmd_run.proofs.one_script.Numbers.{names_of, number_in, number-is}
use Rattle.cmd_run.proofs.one_script.Seen.{Seen, SeenConnection, code_of, found_at, nameless, seen, seen_connection}
use Rattle.cmd_run.proofs.one_script.SeenCells.{drop-nameless, last-nameless, length-nameless, verdict-nameless}
use Rattle.cmd_run.proofs.one_script.SeenConnections.{found-seen}
use Rattle.cmd_run.proofs.one_script.SeenPrograms.{code-seen}
use Rattle.cmd_run.proofs.one_script.HoldsAfter.{HoldsAfter, JudgedAtMost}

-- Why a cell is not judged.
abbrev pub seen_refusal : Seen → SeenConnection → ℕ → Option Answer
seen_refusal s connection moment =
    if nat_lt (2 ^ 62) moment then Some answer.MomentTooLate
    else if nat_lt moment (last_moment 0 connection.history) then Some (answer.MomentBack (last_moment 0 connection.history))
    else if nat_le s.shape.journal (length (drop connection.returned connection.history)) then Some answer.JournalFull
    else None

-- The verdict on this cell.
abbrev pub seen_verdict : SeenConnection → NamedCell → Verdict
seen_verdict connection cell = verdict_after connection.contracts empty_buckets connection.history cell

-- The text for a judged cell.
abbrev pub judged_text : Side → Vc → SeenConnection → List ℕ → ℕ → ℕ → List ℕ
judged_text side vc connection octets moment value =
    let verdict = seen_verdict connection (seen_cell octets moment value) in
    verdict_text verdict (judging_text side vc connection.program value) (cell_after verdict octets)

-- The answer to a cell with this value.
abbrev pub JudgesSeen : Seen → Vc → SeenConnection → ℕ → List ℕ → ℕ → List ℕ → Seen → Type 0
JudgesSeen s vc connection moment octets value text to =
    MatchOption (seen_refusal s connection moment)
    ((text ≡ judged_text s.shape.side vc connection octets moment value) × (to ≡ judged_seen s vc connection (seen_cell octets moment value)))
    (λ given. (answer_text s.shape.side [] vc given ≡ Some text) × (to ≡ s))

-- The answer to a cell whose connection is found.
abbrev pub FoundSeen : Seen → Vc → SeenConnection → ℕ → List ℕ → List ℕ → Seen → Type 0
FoundSeen s vc connection moment octets text to =
    (code : List Instr) × (value : ℕ) × (code_of s.live connection.program ≡ Some code) × Gives code octets value
    × JudgesSeen s vc connection moment octets value text to

-- The answer to a cell.
abbrev pub PolicesSeen : Seen → ℕ → List ℕ → List ℕ → Seen → Type 0
PolicesSeen s moment octets text to =
    MatchOption (found_at s.connections (vc_of s.shape.side octets))
    ((text ≡ arrive_fault (codes "1 NoConnection")) × (to ≡ s))
    (λ connection. FoundSeen s (vc_of s.shape.side octets) connection moment octets text to)

-- While no line of the card is full, the view decides whether a cell is refused.
pub refusal-seen : (most : ℕ) (world : World) (connection : Connection) (moment : ℕ) → JudgedAtMost most world → most < 2 ^ 62
    → cell_refusal world connection moment ≡ seen_refusal (seen world) (seen_connection world.loaded connection) moment
refusal-seen most world connection moment verdicts few =
    let counted = verdicts connection.line in
    let last = last-nameless 0 connection.history in
    let kept : length (drop connection.returned (map nameless connection.history)) ≡ length (kept_cells connection) =
    ap length (drop-nameless connection.returned connection.history) ∙ length-nameless (kept_cells connection) in
    let unworn : nat_le (2 ^ 62) (length (world.verdicts connection.line)) ≡ false = lt-leb (2 ^ 62) (length (world.verdicts connection.line)) (omega arith) in
    λ i. if nat_lt (2 ^ 62) moment then Some answer.MomentTooLate
    else if nat_lt moment (sym last i) then Some (answer.MomentBack (sym last i))
    else if nat_le world.shape.journal (sym kept i) then Some answer.JournalFull
    else if unworn i then Some answer.JournalFull
    else None

-- The text for a refusal names no program.
plain : (side : Side) (late back full : Bool) (last : ℕ) (given : Answer) (names : List Id) (vc : Vc)
    → (if late then Some answer.MomentTooLate else if back then Some (answer.MomentBack last) else if full then Some answer.JournalFull else None) ≡ Some given
    → answer_text side names vc given ≡ answer_text side [] vc given
plain side true back full last given names vc e =
    subst (λ (a : Answer). answer_text side names vc a ≡ answer_text side [] vc a) (same_Some answer.MomentTooLate given e) refl
plain side false true full last given names vc e =
    subst (λ (a : Answer). answer_text side names vc a ≡ answer_text side [] vc a) (same_Some (answer.MomentBack last) given e) refl
plain side false false true last given names vc e =
    subst (λ (a : Answer). answer_text side names vc a ≡ answer_text side [] vc a) (same_Some answer.JournalFull given e) refl
plain side false false false last given names vc e = absurd (cc)

refusal-plain : (side : Side) (s : Seen) (connection : SeenConnection) (moment : ℕ) (given : Answer) (names : List Id) (vc : Vc)
    → seen_refusal s connection moment ≡ Some given → answer_text side names vc given ≡ answer_text side [] vc given
refusal-plain side s connection moment given names vc e =
    plain side (nat_lt (2 ^ 62) moment) (nat_lt moment (last_moment 0 connection.history))
    (nat_le s.shape.journal (length (drop connection.returned connection.history))) (last_moment 0 connection.history) given names vc e

-- The code of a connection's program.
pub code-there : (before : World) → WorldInvariant before → (met : ℕ) → HoldsAfter met before → (vc : Vc) (connection : Connection)
    → connection_in before.connections vc ≡ Some connection → (code : List Instr) → code_in before.loaded connection.program ≡ Some code
    → code_of (seen before).live (number_in before.loaded connection.program) ≡ Some code
code-there before sound met invariant vc connection found code named =
    let live = (sound.connections.each vc connection found).named_live in
    let choice : (o : Option (List Instr)) → code_in before.live connection.program ≡ o → is_some o ≡ true → o ≡ Some code = elim [
      | None ↦ λ e some. absurd (cc)
      | Some other ↦ λ e some.
          let given = sound.programs.live_given connection.program other e in
          sym given ∙ named
    ] in
    code-seen before.loaded before.live invariant.programs.known connection.program
    ∙ choice (code_in before.live connection.program) refl live

-- The text for a judgement.
judged-printed : (before : World) (names : List Id) (vc : Vc) (connection : Connection) (octets : List ℕ) (moment value : ℕ) (text : List ℕ)
    → names ≡ names_of before.loaded
    → answer_text before.shape.side names vc (judged_answer (picked_world before octets moment vc connection value) (picking_of octets moment vc connection value) connection) ≡ Some text
    → text ≡ judged_text before.shape.side vc (seen_connection before.loaded connection) octets moment value
judged-printed before names vc connection octets moment value text known printed =
    let number : number_of_program names connection.program ≡ number_in before.loaded connection.program =
    ap (λ ids. number_of_program ids connection.program) known ∙ number-is before.loaded connection.program in
    let verdict = verdict-nameless connection.contracts empty_buckets connection.history (named_cell octets moment connection.program value) in
    sym (same_Some _ text printed)
    ∙ (λ i. verdict_text (sym verdict i) (judging_text before.shape.side vc (number i) value) (cell_after (sym verdict i) octets))

-- The text of an answer is by the view.
module _ (met most : ℕ) (before after : World) (names : List Id) (moment : ℕ) (octets : List ℕ) (given : Answer) (text : List ℕ)
    (invariant : HoldsAfter met before) (counted : JudgedAtMost most before) (few : most < 2 ^ 62) (sound : WorldInvariant before)
    (known : names ≡ names_of before.loaded) (printed : answer_text before.shape.side names (vc_of before.shape.side octets) given ≡ Some text) where
  abbrev Judged : Connection → ℕ → Option Answer → Type 0
  Judged connection value o =
      MatchOption o
      ((text ≡ judged_text before.shape.side (vc_of before.shape.side octets) (seen_connection before.loaded connection) octets moment value)
      × (seen after ≡ judged_seen (seen before) (vc_of before.shape.side octets) (seen_connection before.loaded connection) (seen_cell octets moment value)))
      (λ answer. (answer_text before.shape.side [] (vc_of before.shape.side octets) answer ≡ Some text) × (seen after ≡ seen before))

  abbrev Answers : Option SeenConnection → Type 0
  Answers o =
      MatchOption o ((text ≡ arrive_fault (codes "1 NoConnection")) × (seen after ≡ seen before))
      (λ one. FoundSeen (seen before) (vc_of before.shape.side octets) one moment octets text (seen after))

  found-comes : (connection : Connection) → connection_in before.connections (vc_of before.shape.side octets) ≡ Some connection
      → (code : List Instr) → code_in before.loaded connection.program ≡ Some code → (value : ℕ) → Gives code octets value
      → (o : Option Answer) → cell_refusal before connection moment ≡ o → Judged connection value o → PolicesSeen (seen before) moment octets text (seen after)
  found-comes connection found code named value gives o is judged_by =
      let vc = vc_of before.shape.side octets in
      let refusal = refusal-seen most before connection moment counted few in
      let there = found-there before.loaded before.connections vc connection found in
      let code_there = code-there before sound met invariant vc connection found code named in
      subst Answers (sym there) (code, value, code_there, gives, subst (Judged connection value) (sym is ∙ refusal) judged_by)

  pub cell-comes : CellCase before after moment octets given → PolicesSeen (seen before) moment octets text (seen after)
  cell-comes (missed none is shown) =
      let vc = vc_of before.shape.side octets in
      let nothing : found_at (seen before).connections vc ≡ None =
      found-seen before.loaded before.connections vc ∙ ap (option_map (seen_connection before.loaded)) none in
      let text_is : text ≡ arrive_fault (codes "1 NoConnection") =
      sym (same_Some _ text (ap (answer_text before.shape.side names vc) (sym is) ∙ printed)) in
      subst Answers (sym nothing) (text_is, shown)
  cell-comes (refused connection found code named value gives why shown) =
      let vc = vc_of before.shape.side octets in
      let refusal = refusal-seen most before connection moment counted few in
      let plainly = refusal-plain before.shape.side (seen before) (seen_connection before.loaded connection) moment given names vc (sym refusal ∙ why) in
      found-comes connection found code named value gives (Some given) why (sym plainly ∙ printed, shown)
  cell-comes (judged connection found code named value gives allowed is shown) =
      let vc = vc_of before.shape.side octets in
      let printed_so = ap (answer_text before.shape.side names vc) (sym is) ∙ printed in
      found-comes connection found code named value gives None allowed
      (judged-printed before names vc connection octets moment value text known printed_so, shown)
