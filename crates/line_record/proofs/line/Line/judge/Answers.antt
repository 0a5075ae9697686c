use Rattle.std.proofs.Common.{◌≡◌, ℕ, [], ◌∷◌, ◌++◌, ◌≤◌, List, length, None, IsSome, vec_capacity, ap, sym, subst, ◌∙◌}
use Rattle.leaky.specs.declared.contract.Contract.{Contract}
use Rattle.line_record.specs.declared.entry.Entry.{Entry}
use Rattle.line_record.specs.History.{NamedCell}
use Rattle.line_record.specs.JournalRun.{IsJournalRun}
use Rattle.line_record.specs.Line.{LineView, line_refusal}
use Rattle.line_record.specs.inner.LineFields.{view_of, KeepsRoom}
use Rattle.line_record.specs.StateAfter.{IsStateAfter}
use Rattle.line_record.proofs.NumberLemmas.{numbered-none}
use Rattle.line_record.proofs.RunLemmas.{IsStateAfter-run}
use Rattle.line_record.proofs.LineLemmas.{KeepsRoom-gains}
use Rattle.line_record.proofs.line.Line.judge.Goals as goal

pub invariant_of-self : goal.invariant_of-self
invariant_of-self c =
    let l = c.self.inside in
    let entry = c.judge-entry.result in
    let next = c.judge-entry.new.self in
    let capacity = vec_capacity l.entries in
    let run : IsJournalRun l.contracts.items l.state (entry ∷ []) next =
    subst (λ (under : List Contract). IsJournalRun under l.state (entry ∷ []) next) c.as_slice.ensures.value c.judge-entry.ensures.run in
    let held : IsSome l.owner = subst (λ (line : LineView). IsSome line.owner) (sym c.self.view_is) c.requires in
    let at : entry.moment ≡ c.args.moment = ap (λ (cell : NamedCell). cell.moment) c.judge-entry.ensures.cell in
    let view = view_of l.owner l.contracts.items l.journal l.start l.entries.items l.state capacity in
    let none : line_refusal view entry.moment ≡ None =
    ap (line_refusal view) at
    ∙ subst (λ (line : LineView). line_refusal line c.args.moment ≡ None) (sym c.self.view_is) (sym c.in_default.ensures) in
    let sound = KeepsRoom-gains l.owner l.contracts.items l.journal l.start l.entries.items l.state capacity entry next c.self.invariant held none run in
    let items = c.push_reserved.ensures.items in
    let same = c.push_reserved.ensures.capacity in
    let Sound : List Entry → ℕ → Type 0 = λ entries room.
    KeepsRoom (view_of l.owner l.contracts.items l.journal l.start entries next room) room in
    subst (λ entries. Sound entries (vec_capacity c.push_reserved.new.self)) (sym items)
    (subst (Sound (l.entries.items ++ entry ∷ [])) (sym same) sound)

pub returns-clause-history : goal.returns-clause-history
returns-clause-history c history after =
    let l = c.self.inside in
    let entry = c.judge-entry.result in
    let next = c.judge-entry.new.self in
    let run : IsJournalRun l.contracts.items l.state (entry ∷ []) next =
    subst (λ (under : List Contract). IsJournalRun under l.state (entry ∷ []) next) c.as_slice.ensures.value c.judge-entry.ensures.run in
    let start : IsStateAfter l.contracts.items history l.state =
    subst (λ (line : LineView). IsStateAfter line.contracts history line.state) (sym c.self.view_is) after in
    (IsStateAfter-run l.contracts.items history l.state next (entry ∷ []) start run).1

pub returns-clause-unnamed : goal.returns-clause-unnamed
returns-clause-unnamed c unnamed =
    let few = subst (λ (under : List Contract). length under ≤ 4) (sym c.as_slice.ensures.value) c.self.invariant.kept.few in
    c.judge-entry.ensures.unnamed (numbered-none c.as_slice.result.now c.args.value few unnamed)
