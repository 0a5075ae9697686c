-- The parts of a chain, as the definitions go through them and as loops do.
use Rattle.std.proofs.Common.{◌≡◌, ℕ, zero, suc, ◌+◌, ◌<◌, Bool, true, false, ◌&&◌, ◌||◌, List, [], ◌∷◌, length, take, drop, get_or, Option, Vec, Global, refl, sym, ap, subst, ◌∙◌, arith}
use Rattle.std.proofs.lemmas.List.{drop_more}
use mathlib.Core.Former.{Count}
use Rattle.bpf_code.specs.declared.instr.Instr.{Instr}
use Rattle.rules_code.specs.Labels.{Tested}
use Rattle.rules_code.specs.PlainTests.{holds, all_hold, one_holds}
use Rattle.rules_code.specs.TestCode.{turned, turned_known, known_with_operand, known_after, known_after_chain, known_after_more, test_code, operands_code}
use Rattle.rules_code.specs.inner.Chains.{each_holds, some_holds, known_after_operand, known_after_more_tests, known_after_tests, held_before, operand_code, chain_code}
use Rattle.rules_code.specs.inner.Making.{IsMade}
use Rattle.rules_code.specs.declared.draft.Ways.{Ways}
use Rattle.rules_code.specs.declared.packet_part.KnownOnBranches.{KnownOnBranches}
use Rattle.rules_code.specs.declared.packet_part.Part.{Part}
use Rattle.rules_code.specs.declared.plain_test.PlainTest.{PlainTest, AllOf, AllOf', AnyOf, Row_of-PlainTest, end_of-PlainTest, more_of-PlainTest, items-the_row-PlainTest, items_hidden-the_row-PlainTest-0}
use Rattle.rules_code.proofs.Made.{tested_is, ways_are}

-- The parts of a chain of `and`. Those of a chain of `or` are taken from one of `and` with the same parts.
abbrev row_of : PlainTest → (n : Count) × Row_of-PlainTest n
row_of (AllOf' shape row) = (_, row)
row_of _ = (_, end_of-PlainTest)

-- ---- what is known of A

more_same : (on : Bool) (n : _) (row : Row_of-PlainTest n) (before : KnownOnBranches) → known_after_more on row before ≡ known_after_more_tests on (items-the_row-PlainTest n row) before
more_same on n end_of-PlainTest before = refl
more_same on n (more_of-PlainTest test more) before = more_same on _ more (known_with_operand before (known_after_operand on test before.met))

chain_same : (on : Bool) (n : _) (row : Row_of-PlainTest n) (held : Option Part) → known_after_chain on row held ≡ known_after_tests on (items-the_row-PlainTest n row) held
chain_same on n end_of-PlainTest held = refl
chain_same on n (more_of-PlainTest test more) held = more_same on _ more (known_after_operand on test held)

pub known_all : (tests : Vec PlainTest Global) (held : Option Part) → known_after (AllOf tests) held ≡ known_after_tests true tests.items held
known_all tests held =
    let row = row_of (AllOf tests) in
    chain_same true row.0 row.1 held ∙ ap (λ (ts : List PlainTest). known_after_tests true ts held) (items_hidden-the_row-PlainTest-0 tests)

pub known_any : (tests : Vec PlainTest Global) (held : Option Part) → known_after (AnyOf tests) held ≡ turned_known (known_after_tests false tests.items held)
known_any tests held =
    let row = row_of (AllOf tests) in
    ap turned_known (chain_same false row.0 row.1 held ∙ ap (λ (ts : List PlainTest). known_after_tests false ts held) (items_hidden-the_row-PlainTest-0 tests))

-- ---- the code

parts_same : (on : Bool) (n : _) (row : Row_of-PlainTest n) (held : Option Part) (code : List Instr) (next end : ℕ) → operands_code on row held code next end ≡ chain_code on (items-the_row-PlainTest n row) held code next end
unfolding test_code operand_code chain_code
parts_same on n end_of-PlainTest held code next end = refl
parts_same on n (more_of-PlainTest test more) held code next end =
    ap (operand_code on test held) (parts_same on _ more (known_after_operand on test held).met code next end)

pub code_all : (tests : Vec PlainTest Global) (held : Option Part) (code : List Instr) (met unmet : ℕ) → test_code (AllOf tests) held code met unmet ≡ chain_code true tests.items held code met unmet
unfolding test_code
code_all tests held code met unmet =
    let row = row_of (AllOf tests) in
    parts_same true row.0 row.1 held code met unmet ∙ ap (λ (ts : List PlainTest). chain_code true ts held code met unmet) (items_hidden-the_row-PlainTest-0 tests)

pub code_any : (tests : Vec PlainTest Global) (held : Option Part) (code : List Instr) (met unmet : ℕ) → test_code (AnyOf tests) held code met unmet ≡ turned (chain_code false tests.items held code unmet met)
unfolding test_code
code_any tests held code met unmet =
    let row = row_of (AllOf tests) in
    ap turned (parts_same false row.0 row.1 held code unmet met ∙ ap (λ (ts : List PlainTest). chain_code false ts held code unmet met) (items_hidden-the_row-PlainTest-0 tests))

-- ---- whether they hold

all_same : (n : _) (row : Row_of-PlainTest n) (packet : List ℕ) → all_hold row packet ≡ each_holds (items-the_row-PlainTest n row) packet
all_same n end_of-PlainTest packet = refl
all_same n (more_of-PlainTest test more) packet = ap (λ b. holds test packet && b) (all_same _ more packet)

one_same : (n : _) (row : Row_of-PlainTest n) (packet : List ℕ) → one_holds row packet ≡ some_holds (items-the_row-PlainTest n row) packet
one_same n end_of-PlainTest packet = refl
one_same n (more_of-PlainTest test more) packet = ap (λ b. holds test packet || b) (one_same _ more packet)

pub holds_all : (tests : Vec PlainTest Global) (packet : List ℕ) → holds (AllOf tests) packet ≡ each_holds tests.items packet
holds_all tests packet =
    let row = row_of (AllOf tests) in
    all_same row.0 row.1 packet ∙ ap (λ (ts : List PlainTest). each_holds ts packet) (items_hidden-the_row-PlainTest-0 tests)

pub holds_any : (tests : Vec PlainTest Global) (packet : List ℕ) → holds (AnyOf tests) packet ≡ some_holds tests.items packet
holds_any tests packet =
    let row = row_of (AllOf tests) in
    one_same row.0 row.1 packet ∙ ap (λ (ts : List PlainTest). some_holds ts packet) (items_hidden-the_row-PlainTest-0 tests)

-- ---- loops

-- One more part of a chain.
pub more_step : (on : Bool) (tests : List PlainTest) (at : ℕ) (d test : PlainTest) (first : KnownOnBranches) (before after : KnownOnBranches) → at < length tests → test ≡ get_or tests at d
    → before ≡ known_after_more_tests on (take at tests) first → after ≡ known_with_operand before (known_after_operand on test before.met) → after ≡ known_after_more_tests on (take (at + 1) tests) first
more_step on [] at d test first before after lt there was is = absurd (omega arith)
more_step on (one ∷ more) zero d test first before after lt there was is =
    is ∙ (ap (λ (l : KnownOnBranches). known_with_operand l (known_after_operand on test l.met)) was ∙ ap (λ (t : PlainTest). known_with_operand first (known_after_operand on t first.met)) there)
more_step on (one ∷ more) (suc at) d test first before after lt there was is =
    let next : suc at + 1 ≡ suc (at + 1) = omega arith in
    more_step on more at d test (known_with_operand first (known_after_operand on one first.met)) before after (omega arith) there was is
    ∙ ap (λ n. known_after_more_tests on (take n (one ∷ more)) first) (sym next)

pub held_step : (on : Bool) (tests : List PlainTest) (held : Option Part) (at : ℕ) (d : PlainTest) → at < length tests
    → held_before on tests held (at + 1) ≡ (known_after_operand on (get_or tests at d) (held_before on tests held at)).met
unfolding held_before
held_step on [] held at d lt = absurd (omega arith)
held_step on (one ∷ more) held zero d lt = refl
held_step on (one ∷ more) held (suc at) d lt =
    let next : suc at + 1 ≡ suc (at + 1) = omega arith in
    ap (λ n. held_before on (one ∷ more) held n) next ∙ held_step on more (known_after_operand on one held).met at d (omega arith)

pub held_first : (on : Bool) (tests : List PlainTest) (held : Option Part) → held ≡ held_before on tests held 0
unfolding held_before
held_first on tests held = refl

pub held_next : (on : Bool) (tests : List PlainTest) (first : Option Part) (at : ℕ) (test : PlainTest) (held next : Option Part) → at < length tests → test ≡ get_or tests at test
    → held ≡ held_before on tests first at → next ≡ (known_after_operand on test held).met → next ≡ held_before on tests first (at + 1)
held_next on tests first at test held next lt there here left =
    left ∙ (ap (λ (h : Option Part). (known_after_operand on test h).met) here
    ∙ (ap (λ (t : PlainTest). (known_after_operand on t (held_before on tests first at)).met) there ∙ sym (held_step on tests first at test lt)))

-- No part.
pub made_none : (on : Bool) (tests : List PlainTest) (held : Option Part) (code : List Instr) (next end : ℕ) → tests ≡ []
    → IsMade (chain_code on tests held code next end) code (record { entry = next; met = next; unmet = end })
unfolding chain_code
made_none on tests held code next end e =
    subst (λ (ts : List PlainTest). IsMade (chain_code on ts held code next end) code (record { entry = next; met = next; unmet = end })) (sym e)
    (record { code_is = refl; ways_are = refl })

-- One more part, taken from the end.
pub made_part : (on : Bool) (tests : List PlainTest) (first : Option Part) (at left : ℕ) (test : PlainTest) (held : Option Part) (code : List Instr) (next end : ℕ) (c1 c2 : List Instr) (w1 w2 : Ways)
    → at < length tests → at + 1 ≡ left → test ≡ get_or tests at test → held ≡ held_before on tests first at
    → IsMade (chain_code on (drop left tests) (held_before on tests first left) code next end) c1 w1
    → IsMade (operand_code on test held (record { code = c1; ways = w1 })) c2 w2
    → IsMade (chain_code on (drop at tests) (held_before on tests first at) code next end) c2 w2
unfolding chain_code
made_part on tests first at left test held code next end c1 c2 w1 w2 lt e there here before made =
    let one = get_or tests at test in
    let known = ap (λ n. held_before on tests first n) (sym e) ∙ held_step on tests first at test lt in
    let cut = drop_more tests at test lt ∙ ap (λ n. one ∷ drop n tests) e in
    let same = tested_is (chain_code on (drop left tests) (held_before on tests first left) code next end) c1 w1 before
    ∙ ap (λ (h : Option Part). chain_code on (drop left tests) h code next end) known in
    let placed = subst (λ (t : Tested). IsMade (operand_code on test held t) c2 w2) same made in
    let rest = chain_code on (drop left tests) (known_after_operand on one (held_before on tests first at)).met code next end in
    let found = subst (λ (h : Option Part). IsMade (operand_code on test h rest) c2 w2) here placed in
    let whole = subst (λ (t : PlainTest). IsMade (operand_code on t (held_before on tests first at) rest) c2 w2) there found in
    subst (λ (ts : List PlainTest). IsMade (chain_code on ts (held_before on tests first at) code next end) c2 w2) (sym cut) whole

-- The parts from the first on.
pub made_whole : (on : Bool) (tests : List PlainTest) (first : Option Part) (left : ℕ) (code : List Instr) (next end : ℕ) (c : List Instr) (w : Ways) → left ≡ 0
    → IsMade (chain_code on (drop left tests) (held_before on tests first left) code next end) c w → IsMade (chain_code on tests first code next end) c w
unfolding held_before
made_whole on tests first left code next end c w e made =
    subst (λ n. IsMade (chain_code on (drop n tests) (held_before on tests first n) code next end) c w) e made

-- The code of a test that is a chain.
pub code_is_all : (test : PlainTest) (tests : Vec PlainTest Global) (parts : List PlainTest) (held : Option Part) (code : List Instr) (met unmet : ℕ) → test ≡ AllOf tests → parts ≡ tests.items
    → chain_code true parts held code met unmet ≡ test_code test held code met unmet
code_is_all test tests parts held code met unmet e same =
    ap (λ (ts : List PlainTest). chain_code true ts held code met unmet) same ∙ (sym (code_all tests held code met unmet) ∙ ap (λ (t : PlainTest). test_code t held code met unmet) (sym e))

pub code_is_any : (test : PlainTest) (tests : Vec PlainTest Global) (parts : List PlainTest) (held : Option Part) (code : List Instr) (met unmet : ℕ) → test ≡ AnyOf tests → parts ≡ tests.items
    → turned (chain_code false parts held code unmet met) ≡ test_code test held code met unmet
code_is_any test tests parts held code met unmet e same =
    ap (λ (ts : List PlainTest). turned (chain_code false ts held code unmet met)) same ∙ (sym (code_any tests held code met unmet) ∙ ap (λ (t : PlainTest). test_code t held code met unmet) (sym e))

-- The labels with the two sides changed over.
pub made_turned : (t : Tested) (code : List Instr) (w v : Ways) → v.entry ≡ w.entry → v.met ≡ w.unmet → v.unmet ≡ w.met → IsMade t code w → IsMade (turned t) code v
made_turned t code w v p q r made =
    let same = made.ways_are in
    record {
      code_is = made.code_is;
      ways_are = ways_are v.entry v.met v.unmet t.ways.entry t.ways.unmet t.ways.met (p ∙ ap (λ (x : Ways). x.entry) same) (q ∙ ap (λ (x : Ways). x.unmet) same) (r ∙ ap (λ (x : Ways). x.met) same);
    }
