-- Runs, one after another.
use Rattle.std.proofs.Common.{◌≡◌, List, [], ◌++◌, length, refl, sym, ap, subst, ◌∙◌}
use Rattle.std.proofs.lemmas.List.{append-nil}
use Rattle.leaky.specs.declared.contract.Contract.{Contract}
use Rattle.leaky.specs.Moments.{GoesOn}
use Rattle.line_record.specs.declared.entry.Entry.{Entry}
use Rattle.line_record.specs.declared.state.State.{State}
use Rattle.line_record.specs.History.{NamedCell, numbered, moments_of, last_moment, buckets_after_cells, empty_buckets, named_cells_of, judged}
use Rattle.line_record.specs.StateAfter.{IsStateAfter}
use Rattle.line_record.specs.JournalRun.{tallied, IsJournalRun}
use Rattle.line_record.proofs.HistoryLemmas.{buckets_under-nil, buckets_after-append, judged-after, judged-append, last_moment-append, GoesOn-append, tallied-append, cells_of-append, StandsFor-same}

-- No entries are a run from a state to itself.
pub IsRun-nil : (contracts : List Contract) (state : State) → length state.levels.items ≡ length contracts
    → IsJournalRun contracts state [] state
IsRun-nil contracts state one_each = record {
  opens = one_each;
  closes = one_each;
  moments = tt;
  verdicts = λ opening holds. refl;
  levels = λ opening holds.
      StandsFor-same state opening (buckets_after_cells contracts opening [])
      (λ number. sym (buckets_under-nil (numbered contracts number) (opening number))) holds;
  last = refl;
  counts = refl;
}

-- Two runs, the second from the end of the first.
pub IsRun-append : (contracts : List Contract) (start middle end : State) (xs ys : List Entry)
    → IsJournalRun contracts start xs middle → IsJournalRun contracts middle ys end
    → IsJournalRun contracts start (xs ++ ys) end
IsRun-append contracts start middle end xs ys first second =
    let both = cells_of-append xs ys in
    let goes : GoesOn (last_moment start.last (named_cells_of xs)) (moments_of (named_cells_of ys)) =
    subst (λ last. GoesOn last (moments_of (named_cells_of ys))) first.last second.moments in
    record {
      opens = first.opens;
      closes = second.closes;
      moments = rw both (GoesOn-append start.last (named_cells_of xs) (named_cells_of ys) first.moments goes);
      verdicts = λ opening holds.
          let left = buckets_after_cells contracts opening (named_cells_of xs) in
          let later : ys ≡ judged contracts opening (named_cells_of xs) (named_cells_of ys) =
          second.verdicts left (first.levels opening holds)
          ∙ judged-after contracts opening (named_cells_of xs) [] (named_cells_of ys)
          ∙ ap (λ whole. judged contracts opening whole (named_cells_of ys)) (append-nil (named_cells_of xs)) in
          ap (λ entries. entries ++ ys) (first.verdicts opening holds)
          ∙ ap (λ entries. judged contracts opening [] (named_cells_of xs) ++ entries) later
          ∙ sym (judged-append contracts opening [] (named_cells_of xs) (named_cells_of ys))
          ∙ ap (judged contracts opening []) (sym both);
      levels = λ opening holds.
          let left = buckets_after_cells contracts opening (named_cells_of xs) in
          StandsFor-same end (buckets_after_cells contracts left (named_cells_of ys)) (buckets_after_cells contracts opening (named_cells_of (xs ++ ys)))
          (λ number. sym (buckets_after-append contracts opening (named_cells_of xs) (named_cells_of ys) number)
          ∙ ap (λ cells. buckets_after_cells contracts opening cells number) (sym both))
          (second.levels left (first.levels opening holds));
      last = second.last ∙ ap (λ last. last_moment last (named_cells_of ys)) first.last
          ∙ sym (last_moment-append start.last (named_cells_of xs) (named_cells_of ys))
          ∙ ap (last_moment start.last) (sym both);
      counts = second.counts ∙ ap (λ counts. tallied counts ys) first.counts
          ∙ sym (tallied-append start.counts xs ys);
    }

-- If a run starts from a state that agrees with a history, its end agrees with the longer history, and its verdicts are
-- those of the history.
pub IsStateAfter-run : (contracts : List Contract) (history : List NamedCell) (start end : State) (entries : List Entry)
    → IsStateAfter contracts history start → IsJournalRun contracts start entries end
    → (entries ≡ judged contracts empty_buckets history (named_cells_of entries))
    × IsStateAfter contracts (history ++ named_cells_of entries) end
IsStateAfter-run contracts history start end entries after run =
    let left = buckets_after_cells contracts empty_buckets history in (
      run.verdicts left after.holds
          ∙ judged-after contracts empty_buckets history [] (named_cells_of entries)
          ∙ ap (λ whole. judged contracts empty_buckets whole (named_cells_of entries)) (append-nil history),
      record {
        one_each = run.closes;
        holds = StandsFor-same end (buckets_after_cells contracts left (named_cells_of entries))
            (buckets_after_cells contracts empty_buckets (history ++ named_cells_of entries))
            (λ number. sym (buckets_after-append contracts empty_buckets history (named_cells_of entries) number))
            (run.levels left after.holds);
        last = run.last ∙ ap (λ last. last_moment last (named_cells_of entries)) after.last
            ∙ sym (last_moment-append 0 history (named_cells_of entries));
      },
    )
