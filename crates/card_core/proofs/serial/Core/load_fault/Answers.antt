use Rattle.std.proofs.Common.{◌≡◌, true, false, Option, Some, None, sym, subst, arith}
use Rattle.std.specs.List.{list_all}
use Rattle.gen_arena.specs.Free.{free_slots}
use Rattle.card_core.specs.declared.fault.DeskFault.{DeskFault}
use Rattle.card_core.specs.declared.fault.DeskFault.TheVariants.{Busy, ProgramsFull}
use Rattle.card_core.specs.Agreement.{CoreView}
use Rattle.card_core.specs.Inspection.{load_fault_of}
use Rattle.card_core.specs.inner.Ports.{is_free_port}
use Rattle.card_core.proofs.Inspecting.{load-fault-busy, load-fault-full, load-fault-none}
use Rattle.card_core.proofs.serial.Core.load_fault.Goals as goal

pub returns-then-not-are_outside : goal.returns-then-not-are_outside
returns-then-not-are_outside c =
    let l = c.self.inside in
    let some : list_all is_free_port l.ports.items ≡ false =
    let test = c.are_outside.ensures in let same = c.deref.ensures.value in let is = c.if-not-are_outside.true in cc in
    sym (subst (λ (core : CoreView). load_fault_of core ≡ Some Busy) c.self.view_is
    (load-fault-busy l.shape l.store l.directory l.lines.items l.ports.items some))

pub returns-then-free-eq0 : goal.returns-then-free-eq0
returns-then-free-eq0 c =
    let l = c.self.inside in
    let free : list_all is_free_port l.ports.items ≡ true =
    let test = c.are_outside.ensures in let same = c.deref.ensures.value in let is = c.if-not-are_outside.false in cc in
    let full : free_slots l.store ≡ 0 =
    let count = c.free.ensures.count in let is = c.if-free-eq0.true in omega (arith, count, is) in
    sym (subst (λ (core : CoreView). load_fault_of core ≡ Some ProgramsFull) c.self.view_is
    (load-fault-full l.shape l.store l.directory l.lines.items l.ports.items free full))

pub returns : goal.returns
returns c =
    let l = c.self.inside in
    let free : list_all is_free_port l.ports.items ≡ true =
    let test = c.are_outside.ensures in let same = c.deref.ensures.value in let is = c.if-not-are_outside.false in cc in
    let room : free_slots l.store ≡ 0 → ⊥ = λ full.
    let count = c.free.ensures.count in let is = c.if-free-eq0.false in omega (arith, count, is, full) in
    sym (subst (λ (core : CoreView). load_fault_of core ≡ (let none : Option DeskFault = None in none)) c.self.view_is
    (load-fault-none l.shape l.store l.directory l.lines.items l.ports.items free room))
