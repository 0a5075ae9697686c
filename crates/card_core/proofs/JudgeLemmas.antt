-- The effect of a judged cell on the line and on the connection's history.
use Rattle.std.proofs.Common.{◌≡◌, ◌≢◌, ℕ, ◌^◌, ◌≤◌, Bool, true, false, cond, Option, Some, None, List, [], ◌∷◌, ◌++◌, length, refl, sym, ap, subst, ◌∙◌, arith}
use Rattle.std.specs.Prelude.{option_map, nat_lt, nat_le, ◌==◌, MatchOption}
use Rattle.std.proofs.lemmas.Bool.Decides.{nat_tests, Decides-eqb}
use Rattle.std.proofs.lemmas.List.{take-append-drop, take-append-le, drop-append-le}
use Rattle.leaky.specs.declared.verdict.Verdict.{Verdict}
use Rattle.line_record.specs.declared.entry.Entry.{Entry}
use Rattle.line_record.specs.declared.fault.LineFault.TheVariants.{TooLate, Back, Full}
use Rattle.line_record.specs.History.{NamedCell, last_moment, named_cell_of, entry_of, empty_buckets, verdict_after, judged}
use Rattle.line_record.specs.Line.{LineView, line_refusal}
use Rattle.line_record.specs.declared.tally.Tally.{Tally}
use Rattle.line_record.specs.JournalRun.{tallied}
use Rattle.line_record.specs.Tally.{cells_in, counted, tally_of}
use Rattle.line_record.proofs.Public.{cells_are_judged_in_turn, verdicts_count}
use Rattle.card_core.specs.declared.answer.Answer.{Answer}
use Rattle.card_core.specs.declared.answer.Answer.TheVariants.{MomentTooLate, MomentBack, JournalFull}
use Rattle.card_core.specs.World.{World, Connection, kept_cells, returned_cells, with_verdict}
use Rattle.card_core.specs.Refusals.{cell_refusal}
use Rattle.card_core.specs.Steps.{with_cell}
use Rattle.card_core.specs.Sections.{answer_for}

-- A match on an option that is known to be some.
pub match_some : {X : Type 0} (o : Option X) (P : Type 0) (Q : X → Type 0) (x : X) → o ≡ Some x → MatchOption o P Q → Q x
match_some o P Q x e m = subst (λ p. MatchOption p P Q) e m

pub match_none : {X : Type 0} (o : Option X) (P : Type 0) (Q : X → Type 0) → o ≡ None → MatchOption o P Q → P
match_none o P Q e m = subst (λ p. MatchOption p P Q) e m

-- The same four tests refuse a cell of a line and of a connection.
by_tests : (late back full worn : Bool) (last : ℕ)
    → option_map answer_for (cond late (Some TooLate) (cond back (Some (Back last)) (cond full (Some Full) (cond worn (Some Full) None))))
    ≡ cond late (Some MomentTooLate) (cond back (Some (MomentBack last)) (cond full (Some JournalFull) (cond worn (Some JournalFull) None)))
by_tests true back full worn last = refl
by_tests false true full worn last = refl
by_tests false false true worn last = refl
by_tests false false false true last = refl
by_tests false false false false last = refl

-- A line refuses the same cells as the connection that it serves.
pub refusals_agree : (line : LineView) (world : World) (connection : Connection) (moment : ℕ)
    → line.journal ≡ world.shape.journal → line.state.last ≡ last_moment 0 connection.history
    → length line.entries ≡ length (kept_cells connection)
    → cells_in line.state.counts ≡ length (world.verdicts connection.line)
    → option_map answer_for (line_refusal line moment) ≡ cell_refusal world connection moment
refusals_agree line world connection moment journals lasts entries counts =
    let Refuses : ℕ → ℕ → ℕ → ℕ → Option Answer = λ journal last kept cells.
    cond (nat_lt (2 ^ 62) moment) (Some MomentTooLate)
    (cond (nat_lt moment last) (Some (MomentBack last))
    (cond (nat_le journal kept) (Some JournalFull) (cond (nat_le (2 ^ 62) cells) (Some JournalFull) None))) in
    by_tests (nat_lt (2 ^ 62) moment) (nat_lt moment line.state.last) (nat_le line.journal (length line.entries))
    (nat_le (2 ^ 62) (cells_in line.state.counts)) line.state.last
    ∙ ap (λ (n : ℕ). Refuses n line.state.last (length line.entries) (cells_in line.state.counts)) journals
    ∙ ap (λ (n : ℕ). Refuses world.shape.journal n (length line.entries) (cells_in line.state.counts)) lasts
    ∙ ap (λ (n : ℕ). Refuses world.shape.journal (last_moment 0 connection.history) n (cells_in line.state.counts)) entries
    ∙ ap (λ (n : ℕ). Refuses world.shape.journal (last_moment 0 connection.history) (length (kept_cells connection)) n) counts

-- The cells that no cut has returned, with one more.
pub kept-with_cell : (connection : Connection) (cell : NamedCell) → connection.returned ≤ length connection.history
    → kept_cells (with_cell connection cell) ≡ kept_cells connection ++ cell ∷ []
kept-with_cell connection cell within = drop-append-le connection.returned connection.history (cell ∷ []) within

pub handed-with_cell : (connection : Connection) (cell : NamedCell) → connection.returned ≤ length connection.history
    → returned_cells (with_cell connection cell) ≡ returned_cells connection
handed-with_cell connection cell within = take-append-le connection.returned connection.history (cell ∷ []) within

-- The journal with one more cell is that of the longer history.
pub judged-with_cell : (connection : Connection) (cell : NamedCell) (entry : Entry) → connection.returned ≤ length connection.history
    → named_cell_of entry ≡ cell → entry.verdict ≡ verdict_after connection.contracts empty_buckets connection.history cell
    → judged connection.contracts empty_buckets (returned_cells connection) (kept_cells connection) ++ entry ∷ []
    ≡ judged connection.contracts empty_buckets (returned_cells (with_cell connection cell)) (kept_cells (with_cell connection cell))
judged-with_cell connection cell entry within cells verdict =
    let contracts = connection.contracts in
    let handed = returned_cells connection in
    let kept = kept_cells connection in
    let whole : handed ++ kept ≡ connection.history = take-append-drop connection.returned connection.history in
    let is_entry : entry ≡ entry_of cell (verdict_after contracts empty_buckets connection.history cell) =
    λ i. entry_of (cells i) (verdict i) in
    let one : judged contracts empty_buckets (handed ++ kept) (cell ∷ []) ≡ entry ∷ [] =
    ap (λ (history : List NamedCell). entry_of cell (verdict_after contracts empty_buckets history cell) ∷ []) whole
    ∙ ap (λ (e : Entry). e ∷ []) (sym is_entry) in
    sym (cells_are_judged_in_turn contracts empty_buckets handed kept (cell ∷ [])
    ∙ ap (λ (later : List Entry). judged contracts empty_buckets handed kept ++ later) one)
    ∙ ap (judged contracts empty_buckets handed) (sym (kept-with_cell connection cell within))
    ∙ ap (λ (before : List NamedCell). judged contracts empty_buckets before (kept_cells (with_cell connection cell)))
    (sym (handed-with_cell connection cell within))

-- A line's verdicts with one more.
pub with_verdict-here : (verdicts : ℕ → List Verdict) (line : ℕ) (verdict : Verdict)
    → with_verdict verdicts line verdict line ≡ verdicts line ++ verdict ∷ []
with_verdict-here verdicts line verdict =
    ap (λ (b : Bool). cond b (verdicts line ++ verdict ∷ []) (verdicts line)) ((Decides-eqb line line).1 refl)

pub with_verdict-other : (verdicts : ℕ → List Verdict) (line : ℕ) (verdict : Verdict) (other : ℕ) → other ≢ line
    → with_verdict verdicts line verdict other ≡ verdicts other
with_verdict-other verdicts line verdict other apart =
    let differs : (other == line) ≡ false = grind (arith, nat_tests) in
    ap (λ (b : Bool). cond b (verdicts other ++ verdict ∷ []) (verdicts other)) differs

-- The counts after two lists of entries.
pub tallied-append : (counts : Tally) (entries later : List Entry)
    → tallied counts (entries ++ later) ≡ tallied (tallied counts entries) later
tallied-append counts [] later = refl
tallied-append counts (entry ∷ entries) later = tallied-append (counted counts entry.verdict) entries later

-- One more entry and its verdict count alike.
pub tallied-more : (counts : Tally) (entries : List Entry) (verdicts : List Verdict) (entry : Entry) (verdict : Verdict)
    → entry.verdict ≡ verdict → tallied counts entries ≡ tally_of verdicts
    → tallied counts (entries ++ entry ∷ []) ≡ tally_of (verdicts ++ verdict ∷ [])
tallied-more counts entries verdicts entry verdict same as_many =
    tallied-append counts entries (entry ∷ [])
    ∙ ap (λ (tally : Tally). counted tally entry.verdict) as_many
    ∙ ap (counted (tally_of verdicts)) same
    ∙ sym (verdicts_count.next verdicts verdict)
