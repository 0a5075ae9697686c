use Rattle.std.proofs.Common.{◌≡◌, true, sym, ap, subst, ◌∙◌}
use Rattle.std.specs.List.{list_any}
use Rattle.gen_arena.specs.declared.id.Id.{Id}
use Rattle.gen_arena.specs.SameId.{is_same_id}
use Rattle.gen_arena.proofs.Public.{id_same, id_itself}
use Rattle.line_record.specs.inner.SeatingChanges.{HasNamed}
use Rattle.line_record.specs.inner.Seats.{seated, names_program}
use Rattle.line_record.specs.inner.SeatsView.{SeatsView}
use Rattle.line_record.proofs.SeatLemmas.{any_found, any_passes, seating-some, line-seated}
use Rattle.line_record.proofs.seats.Seats.names.Goals as goal

pub returns : goal.returns
returns c =
    let s = c.self.inside in
    let seats = s.seats.items in
    let program = c.args.program in
    let any : c.is_any_named.result ≡ list_any (names_program program) seats =
    c.is_any_named.ensures ∙ ap (list_any (names_program program)) c.deref.ensures.value in (
      λ e.
          let found = any_found program seats (sym any ∙ e) in
          let named : HasNamed (seated seats) program = record {
            vc = found.1;
            seating = found.2;
            sits = seating-some s.table seats c.self.invariant found.0 found.1 found.2 found.3;
            names = id_same found.2.program program found.4;
          } in
          subst (λ (view : SeatsView). HasNamed view.seatings program) c.self.view_is named,
      λ named.
          let inner : HasNamed (seated seats) program =
          subst (λ (view : SeatsView). HasNamed view.seatings program) (sym c.self.view_is) named in
          let at = line-seated s.table seats c.self.invariant inner.vc inner.seating inner.sits in
          let passes : is_same_id inner.seating.program program ≡ true =
          ap (λ (id : Id). is_same_id id program) inner.names ∙ id_itself program in
          any ∙ any_passes program seats inner.seating.line inner.vc inner.seating at.1 passes,
    )
