-- A line of the common form is cut where its word begins, so that its number and its cell are read.
use Rattle.std.proofs.Common.{◌≡◌, None}
use Rattle.text_script.specs.ScriptWords.{number_of_digits}
use Rattle.text_script.proofs.CommonLineLemmas.{common-header, common-neither, common-whole, not-both, where-none}
use Rattle.text_script.proofs.common_cell_line.read_common_cell.Goals as goal
use Rattle.text_script.proofs.common_cell_line.read_common_cell.Goals.{in-Some, in-None+in_ok-parts-in-None}

pub returns-in_err-parts-in-None-clause-none : goal.returns-in_err-parts-in-None-clause-none
returns-in_err-parts-in-None-clause-none c =
    where-none c.from_residual-in_err-parts-in-None.result (common-neither c.args.line.now c.in_ok-rest.rest.now
    c.in_ok-rest.ensures.rest c.in-None.ensures.none c.in_err-parts-in-None.ensures.none)

pub returns-in_err-moment-clause-none : goal.returns-in_err-moment-clause-none
returns-in_err-moment-clause-none c =
    let line = c.args.line.now in
    let rest = c.in_ok-rest.rest.now in
    let begins = c.in_ok-rest.ensures.rest in
    let number = c.match-split_last_word.parts.0.now in
    let unread : None ≡ number_of_digits number = c.in_err-moment.ensures in
    where-none c.from_residual-in_err-moment.result (λ moment cell is.
    elim c.match-split_last_word.branch [
      | in-Some w ↦
          let parts = w.in-Some.parts in
          let cut = w.in-Some.ensures.parts in
          let found = common-header line rest parts.0.now parts.1.now moment cell begins cut.0 cut.1 is in
          not-both (number_of_digits number) moment unread (rw w.parts-is found.0)
      | in-None+in_ok-parts-in-None w ↦
          let parts = w.in_ok-parts-in-None.parts in
          let cut = w.in_ok-parts-in-None.ensures.parts in
          let found = common-whole line rest parts.0.now parts.1.now moment cell begins w.in-None.ensures.none cut.0 cut.1 is in
          not-both (number_of_digits number) moment unread (rw w.parts-is found.0)
    ])

pub returns-in_err-cell-clause-none : goal.returns-in_err-cell-clause-none
returns-in_err-cell-clause-none c =
    let line = c.args.line.now in
    let rest = c.in_ok-rest.rest.now in
    let begins = c.in_ok-rest.ensures.rest in
    let unread = c.in_err-cell.ensures.none in
    where-none c.from_residual-in_err-cell.result (λ moment cell is.
    elim c.match-split_last_word.branch [
      | in-Some w ↦
          let parts = w.in-Some.parts in
          let cut = w.in-Some.ensures.parts in
          let found = common-header line rest parts.0.now parts.1.now moment cell begins cut.0 cut.1 is in
          unread cell (rw w.parts-is found.1)
      | in-None+in_ok-parts-in-None w ↦
          let parts = w.in_ok-parts-in-None.parts in
          let cut = w.in_ok-parts-in-None.ensures.parts in
          let found = common-whole line rest parts.0.now parts.1.now moment cell begins w.in-None.ensures.none cut.0 cut.1 is in
          unread cell (rw w.parts-is found.1)
    ])
