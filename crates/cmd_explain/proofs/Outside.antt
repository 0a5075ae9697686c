-- A load from outside of the cell ends the program.
use Rattle.std.proofs.Common.{◌≡◌, ℕ, ◌+◌, ◌<◌, ◌≤◌, Bool, true, false, if◌then◌else◌, List, Option, Some, None, length, nat_le, nat_lt, refl, arith}
use Rattle.std.proofs.lemmas.Bool.Decides.{nat_tests}
use Rattle.bpf_code.specs.declared.instr.Instr.TheVariants as instr
use Rattle.bpf_interp.specs.Packet.{number_at, octets_loaded}
use Rattle.bpf_interp.specs.State.{State, Ended}
use Rattle.bpf_interp.specs.Step.{LoadsNumber}
use Rattle.cmd_explain.specs.SourceHints.{OutsideEndsProgram}

pick-none : (b : Bool) → b ≡ false → (value : ℕ) → (if b then Some value else None) ≡ None
pick-none true e value = let no = e in cc
pick-none false e value = refl

le-false : (n m : ℕ) (b : Bool) → nat_le n m ≡ b → m < n → b ≡ false
le-false n m false is past = refl
le-false n m true is past = let within : n ≤ m = grind (arith, nat_tests) in absurd (omega (arith, within, past))

-- A cell of 52 octets has no number that ends after them.
none_at : (cell : List ℕ) (offset many : ℕ) → length cell ≡ 52 → 52 < offset + many → number_at cell offset many ≡ None
none_at cell offset many sized past =
    pick-none (nat_le (offset + many) (length cell)) (le-false (offset + many) (length cell) (nat_le (offset + many) (length cell)) refl (omega (arith, sized, past))) _

ends : (number : Option ℕ) (on : ℕ → State) (next : State) → number ≡ None → LoadsNumber number on next → next ≡ Ended 0
ends None on next is loads = loads
ends (Some n) on next is loads = let no = is in cc

past_of : (needed : ℕ) → nat_lt 52 needed ≡ true → 52 < needed
past_of needed is = grind (arith, nat_tests)

pub outside_ends_program : OutsideEndsProgram
outside_ends_program cell (instr.LoadAbs size k) pc a x m next sized outside does =
    ends _ _ next (none_at cell k (octets_loaded size) sized (past_of (k + octets_loaded size) outside)) does
outside_ends_program cell (instr.LoadInd size k) pc a x m next sized outside does =
    let past : 52 < k + octets_loaded size = past_of (k + octets_loaded size) outside in
    let more : 52 < x + k + octets_loaded size = omega (arith, past) in
    ends _ _ next (none_at cell (x + k) (octets_loaded size) sized more) does
outside_ends_program cell (instr.LdxMsh k) pc a x m next sized outside does =
    ends _ _ next (none_at cell k 1 sized (past_of (k + 1) outside)) does
outside_ends_program cell (instr.LoadImm k) pc a x m next sized outside does = let no = outside in cc
outside_ends_program cell (instr.LoadMem k) pc a x m next sized outside does = let no = outside in cc
outside_ends_program cell instr.LoadLen pc a x m next sized outside does = let no = outside in cc
outside_ends_program cell (instr.LdxImm k) pc a x m next sized outside does = let no = outside in cc
outside_ends_program cell (instr.LdxMem k) pc a x m next sized outside does = let no = outside in cc
outside_ends_program cell instr.LdxLen pc a x m next sized outside does = let no = outside in cc
outside_ends_program cell (instr.Store k) pc a x m next sized outside does = let no = outside in cc
outside_ends_program cell (instr.StoreX k) pc a x m next sized outside does = let no = outside in cc
outside_ends_program cell (instr.Alu op by) pc a x m next sized outside does = let no = outside in cc
outside_ends_program cell instr.Neg pc a x m next sized outside does = let no = outside in cc
outside_ends_program cell (instr.Jump k) pc a x m next sized outside does = let no = outside in cc
outside_ends_program cell (instr.Branch test by jt jf) pc a x m next sized outside does = let no = outside in cc
outside_ends_program cell (instr.RetK k) pc a x m next sized outside does = let no = outside in cc
outside_ends_program cell instr.RetA pc a x m next sized outside does = let no = outside in cc
outside_ends_program cell instr.Tax pc a x m next sized outside does = let no = outside in cc
outside_ends_program cell instr.Txa pc a x m next sized outside does = let no = outside in cc
