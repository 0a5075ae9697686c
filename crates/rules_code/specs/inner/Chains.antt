-- The operands of a chain as a list, which loops go through.
use Rattle.std.specs.Prelude.{ℕ, zero, suc, Bool, true, false, ◌&&◌, ◌||◌, if◌then◌else◌, List, [], ◌∷◌, Option}
use Rattle.bpf_code.specs.declared.instr.Instr.{Instr}
use Rattle.rules_code.specs.Labels.{Tested}
use Rattle.rules_code.specs.PlainTests.{holds}
use Rattle.rules_code.specs.TestCode.{turned_known_unless, known_with_operand, known_after, turned_unless, before_operands, test_code}
use Rattle.rules_code.specs.declared.packet_part.KnownOnBranches.{KnownOnBranches}
use Rattle.rules_code.specs.declared.packet_part.Part.{Part}
use Rattle.rules_code.specs.declared.plain_test.PlainTest.{PlainTest}

-- What is known of A after an operand of a chain.
abbrev pub known_after_operand : Bool → PlainTest → Option Part → KnownOnBranches
known_after_operand on test held = turned_known_unless on (known_after test held)

-- What is known of A after these further operands of a chain.
abbrev pub known_after_more_tests : Bool → List PlainTest → KnownOnBranches → KnownOnBranches
known_after_more_tests on [] before = before
known_after_more_tests on (test ∷ more) before = known_after_more_tests on more (known_with_operand before (known_after_operand on test before.met))

-- What is known of A after a chain of these operands.
abbrev pub known_after_tests : Bool → List PlainTest → Option Part → KnownOnBranches
known_after_tests on [] held = record { met = held; unmet = held }
known_after_tests on (test ∷ more) held = known_after_more_tests on more (known_after_operand on test held)

-- What is known of A at the operand of this number, counted from 0.
unfoldable pub held_before : Bool → List PlainTest → Option Part → ℕ → Option Part
held_before on tests held zero = held
held_before on [] held (suc at) = held
held_before on (test ∷ more) held (suc at) = held_before on more (known_after_operand on test held).met at

-- The code of an operand in front of that of the operands after it.
unfoldable pub operand_code : Bool → PlainTest → Option Part → Tested → Tested
operand_code on test held later =
    before_operands later (turned_unless on
    (test_code test held later.code (if on then later.ways.entry else later.ways.unmet) (if on then later.ways.unmet else later.ways.entry)))

-- The code of the operands of a chain.
unfoldable pub chain_code : Bool → List PlainTest → Option Part → List Instr → ℕ → ℕ → Tested
chain_code on [] held code next end = record { code = code; ways = record { entry = next; met = next; unmet = end } }
chain_code on (test ∷ more) held code next end =
    operand_code on test held (chain_code on more (known_after_operand on test held).met code next end)

-- Whether each of these tests holds.
abbrev pub each_holds : List PlainTest → List ℕ → Bool
each_holds [] packet = true
each_holds (test ∷ more) packet = holds test packet && each_holds more packet

-- Whether one of these tests holds.
abbrev pub some_holds : List PlainTest → List ℕ → Bool
some_holds [] packet = false
some_holds (test ∷ more) packet = holds test packet || some_holds more packet
