-- What is printed of an answer is the same for cards that are alike.
use Rattle.std.proofs.Common.{◌≡◌, ℕ, zero, suc, Bool, true, false, if◌then◌else◌, ◌++◌, Option, Some, None, nat_lt, option_map, refl, sym, ap, ◌∙◌}
use Rattle.std.specs.Prelude.{option_and_then}
use Rattle.card_core.specs.World.{Connection, connection_in}
use Rattle.card_core.specs.declared.answer.Answer.{Answer}
use Rattle.card_core.specs.declared.answer.Answer.TheVariants as answer
use Rattle.captures_text.specs.declared.line_choice.LineChoice.{LineChoice}
use Rattle.captures_text.specs.declared.line_choice.LineChoice.TheVariants as lines
use Rattle.leaky.specs.Excess.{excess_at}
use Rattle.leaky.specs.declared.excess.Excess.{Excess}
use Rattle.leaky.specs.declared.verdict.Verdict.TheVariants as verdict
use Rattle.line_record.specs.History.{buckets_after_cells, buckets_under, empty_buckets, last_moment, numbered}
use Rattle.upc_cell.specs.declared.side.Side.{Side}
use Rattle.upc_cell.specs.declared.vc.Vc.{Vc}
use Rattle.cmd_run.proofs.alike.CellsAlike.{shown_answer}
use Rattle.cmd_run.proofs.alike.SameConnections.{bare}
use Rattle.cmd_run.proofs.alike.ViewsAlike.{ViewsAlike}
use Rattle.cmd_run.proofs.one_script.Seen.{SeenConnection, found_at, seen, seen_connection}
use Rattle.cmd_run.proofs.one_script.SeenCells.{arrivals-nameless, last-nameless}
use Rattle.cmd_run.proofs.one_script.SeenConnections.{found-seen}
use Rattle.cmd_run.specs.RunText.{Card}
use Rattle.cmd_setups.specs.ConnectionCounts.{connection_counts, counts_below, counts_if_any, counts_line, own_counts, vc_numbered}
use Rattle.cmd_setups.specs.NotJudgedCells.{not_judged_after}
use Rattle.cmd_police.specs.PoliceLines.{answer_columns, excess_of_answer, has_line, is_pass_answer, next_excess}
use Rattle.cmd_setups.specs.Columns.{verdict_given}
use Rattle.cmd_setups.specs.declared.not_judged.NotJudged.{NotJudged}
use Rattle.cmd_police.proofs.one_text.CommandsAlike.{counts_alike}

-- ---- what is read of an answer

passes_shown : (given : Answer) → is_pass_answer given ≡ is_pass_answer (shown_answer given)
passes_shown (answer.Judged line number moment value program verdict.Pass leaving) = refl
passes_shown (answer.Judged line number moment value program verdict.Tag leaving) = refl
passes_shown (answer.Judged line number moment value program verdict.Discard leaving) = refl
passes_shown (answer.Judged line number moment value program verdict.Refuse leaving) = refl
passes_shown answer.NoConnection = refl
passes_shown answer.Released = refl
passes_shown answer.Stale = refl
passes_shown (answer.MomentBack last) = refl
passes_shown answer.MomentTooLate = refl
passes_shown answer.JournalFull = refl
passes_shown answer.NoMemory = refl

line_shown : (wanted : LineChoice) (given : Answer) → has_line wanted given ≡ has_line wanted (shown_answer given)
line_shown lines.All given = refl
line_shown lines.NotPassed given = ap (λ (b : Bool). if b then false else true) (passes_shown given)
line_shown lines.Nothing given = refl

columns_shown : (excess : Option Excess) (given : Answer) → answer_columns given excess ≡ answer_columns (shown_answer given) excess
columns_shown excess (answer.Judged line number moment value program verdict leaving) = refl
columns_shown excess answer.NoConnection = refl
columns_shown excess answer.Released = refl
columns_shown excess answer.Stale = refl
columns_shown excess (answer.MomentBack last) = refl
columns_shown excess answer.MomentTooLate = refl
columns_shown excess answer.JournalFull = refl
columns_shown excess answer.NoMemory = refl

verdict_shown : (given : Answer) → verdict_given given ≡ verdict_given (shown_answer given)
verdict_shown (answer.Judged line number moment value program verdict leaving) = refl
verdict_shown answer.NoConnection = refl
verdict_shown answer.Released = refl
verdict_shown answer.Stale = refl
verdict_shown (answer.MomentBack last) = refl
verdict_shown answer.MomentTooLate = refl
verdict_shown answer.JournalFull = refl
verdict_shown answer.NoMemory = refl

counts_shown : (cells : NotJudged) (record_number : ℕ) (given : Answer)
    → not_judged_after cells record_number given ≡ not_judged_after cells record_number (shown_answer given)
counts_shown cells record_number (answer.Judged line number moment value program verdict leaving) = refl
counts_shown cells record_number answer.NoConnection = refl
counts_shown cells record_number answer.Released = refl
counts_shown cells record_number answer.Stale = refl
counts_shown cells record_number (answer.MomentBack last) = refl
counts_shown cells record_number answer.MomentTooLate = refl
counts_shown cells record_number answer.JournalFull = refl
counts_shown cells record_number answer.NoMemory = refl

-- What is equal for each answer and the shown one is equal for answers that are shown alike.
by_shown : {X : Type 0} (read : Answer → X) → ((given : Answer) → read given ≡ read (shown_answer given)) → (one other : Answer)
    → shown_answer one ≡ shown_answer other → read one ≡ read other
by_shown read shown one other same = shown one ∙ ap read same ∙ sym (shown other)

module _ (one other : Answer) (same : shown_answer one ≡ shown_answer other) where
  pub lines_alike : (wanted : LineChoice) → has_line wanted one ≡ has_line wanted other
  lines_alike wanted = by_shown (has_line wanted) (line_shown wanted) one other same

  pub columns_alike : (excess : Option Excess) → answer_columns one excess ≡ answer_columns other excess
  columns_alike excess = by_shown (λ given. answer_columns given excess) (columns_shown excess) one other same

  pub verdicts_alike : verdict_given one ≡ verdict_given other
  verdicts_alike = by_shown verdict_given verdict_shown one other same

  pub not_judged_alike : (cells : NotJudged) (number : ℕ) → not_judged_after cells number one ≡ not_judged_after cells number other
  not_judged_alike cells number = by_shown (not_judged_after cells number) (counts_shown cells number) one other same

-- ---- the excess of a cell

-- The excess of the next cell, from the view of its connection.
abbrev shown_excess : ℕ → Bool → ℕ → SeenConnection → Option Excess
shown_excess value clp moment connection =
    if nat_lt moment (last_moment 0 connection.history) then None
    else option_and_then (λ contract. excess_at contract (buckets_after_cells connection.contracts empty_buckets connection.history value) clp moment)
    (numbered connection.contracts value)

module _ (value : ℕ) (clp : Bool) (moment : ℕ) where
  own_excess : (card : Card) (connection : Connection)
      → shown_excess value clp moment (bare (seen_connection card.world.loaded connection)) ≡ next_excess connection value clp moment
  own_excess card connection =
      let last = last-nameless 0 connection.history in
      let arrivals = arrivals-nameless value connection.history in
      λ i. if nat_lt moment (last i) then None
      else option_and_then (λ contract. excess_at contract (buckets_under (numbered connection.contracts value) (empty_buckets value) (arrivals i)) clp moment)
      (numbered connection.contracts value)

  each_excess : (card : Card) (found : Option Connection)
      → option_and_then (shown_excess value clp moment) (option_map bare (option_map (seen_connection card.world.loaded) found))
      ≡ option_and_then (λ connection. next_excess connection value clp moment) found
  each_excess card None = refl
  each_excess card (Some connection) = own_excess card connection

  card_excess : (card : Card) (vc : Vc) → option_and_then (shown_excess value clp moment) (option_map bare (found_at (seen card.world).connections vc))
      ≡ option_and_then (λ connection. next_excess connection value clp moment) (connection_in card.world.connections vc)
  card_excess card vc =
      ap (λ (o : Option SeenConnection). option_and_then (shown_excess value clp moment) (option_map bare o)) (found-seen card.world.loaded card.world.connections vc)
      ∙ each_excess card (connection_in card.world.connections vc)

  judged_excess : (one other : Card) → ViewsAlike (seen one.world) (seen other.world) → (vc : Vc)
      → option_and_then (λ connection. next_excess connection value clp moment) (connection_in one.world.connections vc)
      ≡ option_and_then (λ connection. next_excess connection value clp moment) (connection_in other.world.connections vc)
  judged_excess one other views vc =
      sym (card_excess one vc) ∙ ap (option_and_then (shown_excess value clp moment)) (views.connections.found vc) ∙ card_excess other vc

excess_shown : (card : Card) (vc : Vc) (clp : Bool) (given : Answer) → excess_of_answer card.world vc clp given ≡ excess_of_answer card.world vc clp (shown_answer given)
excess_shown card vc clp (answer.Judged line number moment value program verdict leaving) = refl
excess_shown card vc clp answer.NoConnection = refl
excess_shown card vc clp answer.Released = refl
excess_shown card vc clp answer.Stale = refl
excess_shown card vc clp (answer.MomentBack last) = refl
excess_shown card vc clp answer.MomentTooLate = refl
excess_shown card vc clp answer.JournalFull = refl
excess_shown card vc clp answer.NoMemory = refl

excess_same : (one other : Card) → ViewsAlike (seen one.world) (seen other.world) → (vc : Vc) (clp : Bool) (given : Answer)
    → excess_of_answer one.world vc clp given ≡ excess_of_answer other.world vc clp given
excess_same one other views vc clp (answer.Judged line number moment value program verdict leaving) = judged_excess value clp moment one other views vc
excess_same one other views vc clp answer.NoConnection = refl
excess_same one other views vc clp answer.Released = refl
excess_same one other views vc clp answer.Stale = refl
excess_same one other views vc clp (answer.MomentBack last) = refl
excess_same one other views vc clp answer.MomentTooLate = refl
excess_same one other views vc clp answer.JournalFull = refl
excess_same one other views vc clp answer.NoMemory = refl

pub excess_alike : (one other : Card) → ViewsAlike (seen one.world) (seen other.world) → (vc : Vc) (clp : Bool) (given given' : Answer)
    → shown_answer given ≡ shown_answer given' → excess_of_answer one.world vc clp given ≡ excess_of_answer other.world vc clp given'
excess_alike one other views vc clp given given' same =
    excess_same one other views vc clp given ∙ by_shown (excess_of_answer other.world vc clp) (excess_shown other vc clp) given given' same

-- ---- the table

table_line : (side side' : Side) (vc : Vc) (one other : Card) (found found' : Option Connection) → one.world.shape.side ≡ other.world.shape.side
    → option_map own_counts found ≡ option_map own_counts found' → counts_if_any one.world vc found ≡ counts_if_any other.world vc found'
table_line side side' vc one other None None sides same = refl
table_line side side' vc one other None (Some connection) sides same = absurd (cc)
table_line side side' vc one other (Some connection) None sides same = absurd (cc)
table_line side side' vc one other (Some connection) (Some another) sides same =
    let counts : own_counts connection ≡ own_counts another = cc in
    λ i. counts_line (sides i) vc (counts i)

pub table_alike : (one other : Card) → ViewsAlike (seen one.world) (seen other.world) → (number : ℕ) → counts_below one.world number ≡ counts_below other.world number
unfolding counts_below
table_alike one other views zero = refl
table_alike one other views (suc number) =
    let sides : one.world.shape.side ≡ other.world.shape.side = λ i. (views.rest i).shape.side in
    let vc = vc_numbered number in
    let rest = table_alike one other views number in
    let here : connection_counts one.world vc ≡ connection_counts other.world vc =
    table_line one.world.shape.side other.world.shape.side vc one other (connection_in one.world.connections vc) (connection_in other.world.connections vc) sides
    (counts_alike one other views vc) in
    λ i. rest i ++ here i
