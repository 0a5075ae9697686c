use Rattle.std.proofs.Common.{◌≡◌, true, false, Some, None, subst}
use Rattle.std.specs.List.{list_all}
use Rattle.gen_arena.specs.Live.{IsLive}
use Rattle.line_record.specs.Directory.{IsNamed}
use Rattle.card_core.specs.declared.fault.DeskFault.TheVariants.{Busy, NoProgram, InUse}
use Rattle.card_core.specs.Agreement.{CoreView}
use Rattle.card_core.specs.Inspection.{IsRetireFault}
use Rattle.card_core.specs.inner.Ports.{is_free_port}
use Rattle.card_core.proofs.Inspecting.{has-cell, not-live}
use Rattle.card_core.proofs.serial.Core.retire_fault.Goals as goal

pub returns-then-not-are_outside : goal.returns-then-not-are_outside
returns-then-not-are_outside c =
    let l = c.self.inside in
    let some : list_all is_free_port l.ports.items ≡ false =
    let test = c.are_outside.ensures in let same = c.deref.ensures.value in let is = c.if-not-are_outside.true in cc in
    subst (λ (core : CoreView). IsRetireFault core c.args.id (Some Busy)) c.self.view_is
    (has-cell l.shape l.store l.directory l.lines.items l.ports.items false some)

pub returns-then-not-holds : goal.returns-then-not-holds
returns-then-not-holds c =
    let l = c.self.inside in
    let free : list_all is_free_port l.ports.items ≡ true =
    let test = c.are_outside.ensures in let same = c.deref.ensures.value in let is = c.if-not-are_outside.false in cc in
    subst (λ (core : CoreView). IsRetireFault core c.args.id (Some NoProgram)) c.self.view_is (
      has-cell l.shape l.store l.directory l.lines.items l.ports.items true free,
      not-live l.store c.args.id (λ live. let is = c.holds.ensures.live.1 live in let no = c.if-not-holds.true in cc),
    )

pub returns-then-names : goal.returns-then-names
returns-then-names c =
    let l = c.self.inside in
    let free : list_all is_free_port l.ports.items ≡ true =
    let test = c.are_outside.ensures in let same = c.deref.ensures.value in let is = c.if-not-are_outside.false in cc in
    let live : IsLive l.store c.args.id = c.holds.ensures.live.0 (let is = c.if-not-holds.false in cc) in
    let named : IsNamed l.directory c.args.id = c.names.ensures.0 c.if-names.true in
    subst (λ (core : CoreView). IsRetireFault core c.args.id (Some InUse)) c.self.view_is
    (has-cell l.shape l.store l.directory l.lines.items l.ports.items true free, live, named)

pub returns : goal.returns
returns c =
    let l = c.self.inside in
    let free : list_all is_free_port l.ports.items ≡ true =
    let test = c.are_outside.ensures in let same = c.deref.ensures.value in let is = c.if-not-are_outside.false in cc in
    let live : IsLive l.store c.args.id = c.holds.ensures.live.0 (let is = c.if-not-holds.false in cc) in
    subst (λ (core : CoreView). IsRetireFault core c.args.id None) c.self.view_is (
      has-cell l.shape l.store l.directory l.lines.items l.ports.items true free,
      live,
      λ named. let is = c.names.ensures.1 named in let no = c.if-names.false in cc,
    )
