-- Lemmas for other crates: the laws of this crate as terms of the same names.
use Rattle.line_record.specs.Laws.{HistoriesHaveStates, StatesStandForBuckets, RunsJoin, RunsFollowHistories, CellsAreJudgedInTurn, EachCellIsJudged, CountedCellsFill, HistoriesBoundBursts, TotalsCount, TotalsJoin, PartsAreWithin, VerdictsCount, EntriesCount}
use Rattle.line_record.proofs.HistoryLemmas.{judged-append, each-judged}
use Rattle.line_record.proofs.FillLemmas.{counted-fill}
use Rattle.line_record.proofs.ChargeLemmas.{histories-bound}
use Rattle.line_record.proofs.StateLemmas.{histories-have_states, states-stand}
use Rattle.line_record.proofs.RunLemmas.{IsStateAfter-run, IsRun-append}
use Rattle.line_record.proofs.TotalLemmas.{totals-count, totals-join, parts-within, verdicts-count, entries-count}

pub histories_have_states : HistoriesHaveStates
histories_have_states = histories-have_states

pub states_stand_for_buckets : StatesStandForBuckets
states_stand_for_buckets = states-stand

pub runs_join : RunsJoin
runs_join = IsRun-append

pub runs_follow_histories : RunsFollowHistories
runs_follow_histories = IsStateAfter-run

pub cells_are_judged_in_turn : CellsAreJudgedInTurn
cells_are_judged_in_turn = judged-append

pub each_cell_is_judged : EachCellIsJudged
each_cell_is_judged = each-judged

pub counted_cells_fill : CountedCellsFill
counted_cells_fill = counted-fill

pub histories_bound_bursts : HistoriesBoundBursts
histories_bound_bursts = histories-bound

pub totals_count : TotalsCount
totals_count = totals-count

pub totals_join : TotalsJoin
totals_join = totals-join

pub parts_are_within : PartsAreWithin
parts_are_within = parts-within

pub verdicts_count : VerdictsCount
verdicts_count = verdicts-count

pub entries_count : EntriesCount
entries_count = entries-count
