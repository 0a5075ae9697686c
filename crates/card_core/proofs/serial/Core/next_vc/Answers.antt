use Rattle.std.proofs.Common.{List, length, MatchOption, subst}
use Rattle.line_record.specs.Line.{LineView}
use Rattle.card_core.specs.Agreement.{CoreView, CoreAgrees}
use Rattle.card_core.specs.ConnectionState.{IsLastVc, IsNextVc}
use Rattle.card_core.specs.World.{World}
use Rattle.card_core.specs.inner.Listing.{IsNearest}
use Rattle.card_core.proofs.ListingLemmas.{nearest-next}
use Rattle.card_core.proofs.PortLemmas.{core_of}
use Rattle.card_core.proofs.serial.Core.next_vc.Goals as goal

pub returns : goal.returns
returns c =
    let l = c.self.inside in
    let nearest : IsNearest l.lines.items (length l.lines.items) c.args.after c.next_among.result =
    subst (λ (lines : List LineView). IsNearest lines (length lines) c.args.after c.next_among.result) c.deref.ensures.value c.next_among.ensures in
    subst (λ (core : CoreView). (world : World) → CoreAgrees core world
    → MatchOption c.next_among.result (IsLastVc world c.args.after) (IsNextVc world c.args.after)) c.self.view_is
    (λ world agrees. nearest-next (core_of l.shape l.store l.directory l.lines.items l.ports.items) world agrees c.args.after c.next_among.result nearest)
