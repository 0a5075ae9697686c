-- Tests and lines without their places in memory: their code depends on nothing else.
use Rattle.std.proofs.Common.{◌≡◌, ℕ, suc, ◌-◌, ◌==◌, ◌+◌, ◌≤◌, Bool, true, false, if◌then◌else◌, List, [], ◌∷◌, length, map, Option, Some, None, Vec, Global, refl, sym, ap, subst, ◌∙◌}
use Rattle.std.specs.Coded.{le_prop}
use Rattle.std.specs.Option.{MatchOption}
use Rattle.std.specs.Bool.{MatchBool}
use mathlib.Core.Former.{Count}
use Rattle.bpf_code.specs.declared.instr.Instr.{Instr}
use Rattle.bpf_code.specs.declared.instr.Instr.TheVariants.{RetK}
use Rattle.bpf_code.specs.declared.instr.Size.{Size}
use Rattle.bpf_interp.specs.Packet.{octets_loaded}
use Rattle.rules_code.specs.BitTests.{bits_of}
use Rattle.rules_code.specs.Bounds.{IsAtMost, IsBoundTest, IsComparison, IsNotOf, bound_of}
use Rattle.rules_code.specs.Labels.{Tested}
use Rattle.rules_code.specs.LineCode.{Coded, first_after, later_after, known_after_line, line_code, lines_code, lines_coded, with_entry_jump, with_test}
use Rattle.rules_code.specs.Neighbours.{AreOperands, BeginsWith, IsAllOf, IsOfOperands, IsSingle, joined_single, joined_singles, single_in, single_of}
use Rattle.rules_code.specs.TestCode.{among_code, before_operands, held_to_compare, known_after, known_after_chain, known_after_more, known_with_operand, turned_known_unless, operands_code, test_code, turned, turned_known, turned_unless, whole_of}
use Rattle.rules_code.specs.declared.bounds.BoundTest.{BoundTest}
use Rattle.rules_code.specs.declared.lines.Line.{Line}
use Rattle.rules_code.specs.declared.lines.Line.TheVariants.{Rule, Block, End}
use Rattle.rules_code.specs.declared.packet_part.KnownOnBranches.{KnownOnBranches}
use Rattle.rules_code.specs.declared.packet_part.Part.{Part}
use Rattle.rules_code.specs.declared.packet_part.Single.{Single}
use Rattle.rules_code.specs.declared.packet_part.Span.{Span}
use Rattle.rules_code.specs.declared.plain_test.PlainTest.{PlainTest, AllOf, AllOf', Row_of-PlainTest, end_of-PlainTest, more_of-PlainTest, items-the_row-PlainTest, items_hidden-the_row-PlainTest-0}
use Rattle.rules_code.specs.declared.plain_test.PlainTest as plain

mutual
  -- A test.
  pub data Bare : Type 0 where
    bare_always : Bare
    bare_among : Part → Span → List Span → Bare
    bare_not : Bare → Bare
    bare_all : Bares → Bare
    bare_any : Bares → Bare

  -- The tests of a chain.
  pub data Bares : Type 0 where
    no_bares : Bares
    more_bares : Bare → Bares → Bares

abbrev mutual
  pub bare : PlainTest → Bare
  bare plain.Always = bare_always
  bare (plain.Among part first others) = bare_among part first others.items
  bare (plain.Not' p test) = bare_not (bare test)
  bare (plain.AllOf' shape tests) = bare_all (bare_row tests)
  bare (plain.AnyOf' shape tests) = bare_any (bare_row tests)

  pub bare_row : {n : _} → Row_of-PlainTest n → Bares
  bare_row end_of-PlainTest = no_bares
  bare_row (more_of-PlainTest test more) = more_bares (bare test) (bare_row more)

-- ---- what is known of A

abbrev mutual
  bare_known : Bare → Option Part → KnownOnBranches
  bare_known bare_always held = record { met = held; unmet = held }
  bare_known (bare_among part first others) held =
      let left = held_to_compare (bits_of part.mask first others) held part in record { met = left; unmet = left }
  bare_known (bare_not test) held = turned_known (bare_known test held)
  bare_known (bare_all tests) held = bare_known_chain true tests held
  bare_known (bare_any tests) held = turned_known (bare_known_chain false tests held)

  bare_known_chain : Bool → Bares → Option Part → KnownOnBranches
  bare_known_chain on no_bares held = record { met = held; unmet = held }
  bare_known_chain on (more_bares test more) held = bare_known_more on more (turned_known_unless on (bare_known test held))

  bare_known_more : Bool → Bares → KnownOnBranches → KnownOnBranches
  bare_known_more on no_bares before = before
  bare_known_more on (more_bares test more) before = bare_known_more on more (known_with_operand before (turned_known_unless on (bare_known test before.met)))

mutual
  known_bare : (test : PlainTest) (held : Option Part) → known_after test held ≡ bare_known (bare test) held
  known_bare plain.Always held = refl
  known_bare (plain.Among part first others) held = refl
  known_bare (plain.Not' p test) held = ap turned_known (known_bare test held)
  known_bare (plain.AllOf' shape tests) held = chain_bare true tests held
  known_bare (plain.AnyOf' shape tests) held = ap turned_known (chain_bare false tests held)

  chain_bare : {n : _} (on : Bool) (row : Row_of-PlainTest n) (held : Option Part) → known_after_chain on row held ≡ bare_known_chain on (bare_row row) held
  chain_bare on end_of-PlainTest held = refl
  chain_bare on (more_of-PlainTest test more) held =
      ap (λ (left : KnownOnBranches). known_after_more on more (turned_known_unless on left)) (known_bare test held) ∙ more_bare on more (turned_known_unless on (bare_known (bare test) held))

  more_bare : {n : _} (on : Bool) (row : Row_of-PlainTest n) (before : KnownOnBranches) → known_after_more on row before ≡ bare_known_more on (bare_row row) before
  more_bare on end_of-PlainTest before = refl
  more_bare on (more_of-PlainTest test more) before =
      ap (λ (left : KnownOnBranches). known_after_more on more (known_with_operand before (turned_known_unless on left))) (known_bare test before.met)
      ∙ more_bare on more (known_with_operand before (turned_known_unless on (bare_known (bare test) before.met)))

-- ---- the code

abbrev mutual
  bare_code : Bare → Option Part → List Instr → ℕ → ℕ → Tested
  bare_code bare_always held code met unmet = record { code = code; ways = record { entry = met; met = met; unmet = unmet } }
  bare_code (bare_among part first others) held code met unmet = among_code (bits_of part.mask first others) held part (first ∷ others) code met unmet
  bare_code (bare_not test) held code met unmet = turned (bare_code test held code unmet met)
  bare_code (bare_all tests) held code met unmet = bare_operands_code true tests held code met unmet
  bare_code (bare_any tests) held code met unmet = turned (bare_operands_code false tests held code unmet met)

  bare_operands_code : Bool → Bares → Option Part → List Instr → ℕ → ℕ → Tested
  bare_operands_code on no_bares held code next end = record { code = code; ways = record { entry = next; met = next; unmet = end } }
  bare_operands_code on (more_bares test more) held code next end =
      let later = bare_operands_code on more (turned_known_unless on (bare_known test held)).met code next end in
      before_operands later (turned_unless on
      (bare_code test held later.code (if on then later.ways.entry else later.ways.unmet) (if on then later.ways.unmet else later.ways.entry)))

mutual
  unfolding test_code

  code_bare : (test : PlainTest) (held : Option Part) (code : List Instr) (met unmet : ℕ) → test_code test held code met unmet ≡ bare_code (bare test) held code met unmet
  code_bare plain.Always held code met unmet = refl
  code_bare (plain.Among part first others) held code met unmet = refl
  code_bare (plain.Not' p test) held code met unmet = ap turned (code_bare test held code unmet met)
  code_bare (plain.AllOf' shape tests) held code met unmet = parts_bare true tests held code met unmet
  code_bare (plain.AnyOf' shape tests) held code met unmet = ap turned (parts_bare false tests held code unmet met)

  parts_bare : {n : _} (on : Bool) (row : Row_of-PlainTest n) (held : Option Part) (code : List Instr) (next end : ℕ)
      → operands_code on row held code next end ≡ bare_operands_code on (bare_row row) held code next end
  parts_bare on end_of-PlainTest held code next end = refl
  parts_bare on (more_of-PlainTest test more) held code next end =
      let later = bare_operands_code on (bare_row more) (turned_known_unless on (bare_known (bare test) held)).met code next end in
      let same : operands_code on more (turned_known_unless on (known_after test held)).met code next end ≡ later =
      ap (λ (left : KnownOnBranches). operands_code on more (turned_known_unless on left).met code next end) (known_bare test held) ∙ parts_bare on more (turned_known_unless on (bare_known (bare test) held)).met code next end in
      ap (λ (t : Tested). before_operands t (turned_unless on (test_code test held t.code (if on then t.ways.entry else t.ways.unmet) (if on then t.ways.unmet else t.ways.entry)))) same
      ∙ ap (λ (t : Tested). before_operands later (turned_unless on t))
      (code_bare test held later.code (if on then later.ways.entry else later.ways.unmet) (if on then later.ways.unmet else later.ways.entry))

-- ---- lines

pub data BareLine : Type 0 where
  bare_rule : Bare → ℕ → BareLine
  bare_block : Bare → BareLine
  bare_end : BareLine

abbrev pub line_bare : Line → BareLine
line_bare (Rule test value) = bare_rule (bare test) value
line_bare (Block test) = bare_block (bare test)
line_bare End = bare_end

abbrev bare_left : BareLine → Option Part → Option Part
bare_left (bare_rule test value) held = (bare_known test held).unmet
bare_left (bare_block test) held = (bare_known test held).met
bare_left bare_end held = None

abbrev bare_line_code : BareLine → Option Part → Coded → Coded
bare_line_code (bare_rule test value) held rest = with_test (bare_code test held (RetK value ∷ rest.code) (suc (length rest.code)) rest.entry) rest.after
bare_line_code (bare_block test) held rest = with_test (bare_code test held rest.code rest.entry (first_after rest.after)) (later_after rest.after)
bare_line_code bare_end held rest = record { code = rest.code; entry = rest.entry; after = rest.entry ∷ rest.after }

abbrev bare_coded : List BareLine → Option Part → ℕ → Coded
bare_coded [] held otherwise = record { code = RetK otherwise ∷ []; entry = 1; after = [] }
bare_coded (line ∷ lines) held otherwise = bare_line_code line held (bare_coded lines (bare_left line held) otherwise)

left_bare : (line : Line) (held : Option Part) → known_after_line line held ≡ bare_left (line_bare line) held
left_bare (Rule test value) held = ap (λ (left : KnownOnBranches). left.unmet) (known_bare test held)
left_bare (Block test) held = ap (λ (left : KnownOnBranches). left.met) (known_bare test held)
left_bare End held = refl

line_code_bare : (line : Line) (held : Option Part) (rest : Coded) → line_code line held rest ≡ bare_line_code (line_bare line) held rest
unfolding line_code
line_code_bare (Rule test value) held rest =
    ap (λ (t : Tested). with_test t rest.after) (code_bare test held (RetK value ∷ rest.code) (suc (length rest.code)) rest.entry)
line_code_bare (Block test) held rest = ap (λ (t : Tested). with_test t (later_after rest.after)) (code_bare test held rest.code rest.entry (first_after rest.after))
line_code_bare End held rest = refl

coded_bare : (lines : List Line) (held : Option Part) (otherwise : ℕ) → lines_coded lines held otherwise ≡ bare_coded (map line_bare lines) held otherwise
unfolding lines_coded
coded_bare [] held otherwise = refl
coded_bare (line ∷ lines) held otherwise =
    ap (λ (h : Option Part). line_code line held (lines_coded lines h otherwise)) (left_bare line held)
    ∙ ap (λ (rest : Coded). line_code line held rest) (coded_bare lines (bare_left (line_bare line) held) otherwise)
    ∙ line_code_bare line held (bare_coded (map line_bare lines) (bare_left (line_bare line) held) otherwise)

-- Lines that are the same but for their places in memory have one code.
pub same_code : (lines others : List Line) (otherwise : ℕ) → map line_bare lines ≡ map line_bare others → lines_code lines otherwise ≡ lines_code others otherwise
unfolding lines_code
same_code lines others otherwise same =
    ap with_entry_jump (coded_bare lines None otherwise ∙ ap (λ (ls : List BareLine). bare_coded ls None otherwise) same ∙ sym (coded_bare others None otherwise))

-- ---- parts

abbrev made_part : (size : Size) (at : ℕ) → Option ℕ → at + octets_loaded size ≤ 52 → Part
made_part size at mask inside = record { size = size; at = at; mask = mask; inside = inside }

made_same : (size size_too : Size) (at at_too : ℕ) (mask mask_too : Option ℕ) (i : at + octets_loaded size ≤ 52) (j : at_too + octets_loaded size_too ≤ 52)
    → size ≡ size_too → at ≡ at_too → mask ≡ mask_too → made_part size at mask i ≡ made_part size_too at_too mask_too j
made_same size size_too at at_too mask mask_too i j e f g =
    subst (λ (s : Size). (j : at_too + octets_loaded s ≤ 52) → made_part size at mask i ≡ made_part s at_too mask_too j) e
    (subst (λ (a : ℕ). (j : a + octets_loaded size ≤ 52) → made_part size at mask i ≡ made_part size a mask_too j) f
    (subst (λ (m : Option ℕ). (j : at + octets_loaded size ≤ 52) → made_part size at mask i ≡ made_part size at m j) g
    (λ j. ap (made_part size at mask) (le_prop i j)))) j

-- A part is its fields.
pub part_same : (part other : Part) → part.size ≡ other.size → part.at ≡ other.at → part.mask ≡ other.mask → part ≡ other
part_same part other e f g = made_same part.size other.size part.at other.at part.mask other.mask part.inside other.inside e f g

-- ---- comparisons

abbrev bare_at_most : Part → ℕ → Bare
bare_at_most part most = bare_among (whole_of part) (record { low = 0; high = most }) []

abbrev bare_bound : Part → Span → List Span → Option BoundTest → Bare
bare_bound part first others None = bare_among part first others
bare_bound part first others (Some bound) = if bound.within then bare_at_most part bound.most else bare_not (bare_at_most part bound.most)

-- The test that a part is in one of these spans.
abbrev pub bare_comparison : Part → Span → List Span → Bare
bare_comparison part first others = bare_bound part first others (bound_of part.size part.mask first others)

at_most_bare : (part : Part) (most : ℕ) (test : PlainTest) → IsAtMost part most test → bare test ≡ bare_at_most part most
at_most_bare part most plain.Always is = absurd is
at_most_bare part most (plain.Among octets first others) is =
    ap (λ (p : Part). bare_among p first others.items) is.0 ∙ ap (λ (s : Span). bare_among (whole_of part) s others.items) is.1
    ∙ ap (λ (ss : List Span). bare_among (whole_of part) (record { low = 0; high = most }) ss) is.2
at_most_bare part most (plain.Not' p test) is = absurd is
at_most_bare part most (plain.AllOf' shape tests) is = absurd is
at_most_bare part most (plain.AnyOf' shape tests) is = absurd is

-- The test that another doesn't hold.
pub not_bare : (Is : PlainTest → Type 0) (b : Bare) (test : PlainTest) → ((of : PlainTest) → Is of → bare of ≡ b) → IsNotOf Is test → bare test ≡ bare_not b
not_bare Is b plain.Always each is = absurd is
not_bare Is b (plain.Among part first others) each is = absurd is
not_bare Is b (plain.Not' p test) each is = ap bare_not (each test is)
not_bare Is b (plain.AllOf' shape tests) each is = absurd is
not_bare Is b (plain.AnyOf' shape tests) each is = absurd is

within_bare : (within : Bool) (part : Part) (most : ℕ) (test : PlainTest) → MatchBool within (IsAtMost part most test) (IsNotOf (IsAtMost part most) test)
    → bare test ≡ (if within then bare_at_most part most else bare_not (bare_at_most part most))
within_bare true part most test is = at_most_bare part most test is
within_bare false part most test is = not_bare (IsAtMost part most) (bare_at_most part most) test (λ of is. at_most_bare part most of is) is

bound_bare : (bound : Option BoundTest) (part : Part) (first : Span) (others : List Span) (test : PlainTest)
    → MatchOption bound ((rest : Vec Span Global) × (test ≡ plain.Among part first rest) × (rest.items ≡ others)) (λ bound. IsBoundTest part bound test)
    → bare test ≡ bare_bound part first others bound
bound_bare None part first others test is = ap bare is.1 ∙ ap (λ (ss : List Span). bare_among part first ss) is.2
bound_bare (Some bound) part first others test is = within_bare bound.within part bound.most test is

-- A comparison is what it asks.
pub comparison_bare : (part : Part) (first : Span) (others : List Span) (test : PlainTest) → IsComparison part first others test → bare test ≡ bare_comparison part first others
comparison_bare part first others test is = bound_bare (bound_of part.size part.mask first others) part first others test is

-- ---- chains

abbrev pub bares : List Bare → Bares
bares [] = no_bares
bares (test ∷ more) = more_bares test (bares more)

abbrev row_of : PlainTest → (n : Count) × Row_of-PlainTest n
row_of (AllOf' shape row) = (_, row)
row_of _ = (_, end_of-PlainTest)

row_bares : (n : _) (row : Row_of-PlainTest n) → bare_row row ≡ bares (map bare (items-the_row-PlainTest n row))
row_bares n end_of-PlainTest = refl
row_bares n (more_of-PlainTest test more) = ap (λ (bs : Bares). more_bares (bare test) bs) (row_bares _ more)

list_bares : (tests : Vec PlainTest Global) → bare_row (row_of (AllOf tests)).1 ≡ bares (map bare tests.items)
list_bares tests =
    let row = row_of (AllOf tests) in
    row_bares row.0 row.1 ∙ ap (λ (ts : List PlainTest). bares (map bare ts)) (items_hidden-the_row-PlainTest-0 tests)

pub all_bare : (tests : Vec PlainTest Global) → bare (plain.AllOf tests) ≡ bare_all (bares (map bare tests.items))
all_bare tests = ap bare_all (list_bares tests)

pub any_bare : (tests : Vec PlainTest Global) → bare (plain.AnyOf tests) ≡ bare_any (bares (map bare tests.items))
any_bare tests = ap bare_any (list_bares tests)

-- ---- neighbours

abbrev bare_single_of : Bare → Option Single
bare_single_of (bare_among part first others) = single_in part part.mask first others
bare_single_of _ = None

abbrev bare_single : Single → Bare
bare_single single = bare_among (record { size = single.part.size; at = single.part.at; mask = Some single.mask; inside = single.part.inside }) single.span []

single_bare : (single : Single) (test : PlainTest) → IsSingle single test → bare test ≡ bare_single single
single_bare single plain.Always is = absurd is
single_bare single (plain.Among part first others) is =
    let same = part_same part (record { size = single.part.size; at = single.part.at; mask = Some single.mask; inside = single.part.inside }) is.0 is.1 is.2 in
    ap (λ (p : Part). bare_among p first others.items) same
    ∙ ap (λ (s : Span). bare_among (record { size = single.part.size; at = single.part.at; mask = Some single.mask; inside = single.part.inside }) s others.items) is.3
    ∙ ap (λ (ss : List Span). bare_among (record { size = single.part.size; at = single.part.at; mask = Some single.mask; inside = single.part.inside }) single.span ss) is.4
single_bare single (plain.Not' p test) is = absurd is
single_bare single (plain.AllOf' shape tests) is = absurd is
single_bare single (plain.AnyOf' shape tests) is = absurd is

single_of_bare : (test : PlainTest) → single_of test ≡ bare_single_of (bare test)
single_of_bare plain.Always = refl
single_of_bare (plain.Among part first others) = refl
single_of_bare (plain.Not' p test) = refl
single_of_bare (plain.AllOf' shape tests) = refl
single_of_bare (plain.AnyOf' shape tests) = refl

abbrev on_joined : Option Single → List Bare → (Bare → List Bare) → List Bare
on_joined None apart joined = apart
on_joined (Some single) apart joined = joined (bare_single single)

abbrev bare_neighbours : Bare → Bare → Option Single
bare_neighbours one other = joined_singles (bare_single_of one) (bare_single_of other)

-- The parts that a test and those after it make.
abbrev bare_parts : Bare → List Bare → List Bare
bare_parts last [] = last ∷ []
bare_parts last (test ∷ more) = on_joined (bare_neighbours last test) (last ∷ bare_parts test more) (λ joined. bare_parts joined more)

neighbours_bare : (one other : PlainTest) → joined_single one other ≡ bare_neighbours (bare one) (bare other)
neighbours_bare one other =
    ap (λ (s : Option Single). joined_singles s (single_of other)) (single_of_bare one) ∙ ap (λ (s : Option Single). joined_singles (bare_single_of (bare one)) s) (single_of_bare other)

begins_bare : (last : PlainTest) (AreOthers : List PlainTest → Type 0) (others : List Bare) (parts : List PlainTest)
    → ((rest : List PlainTest) → AreOthers rest → map bare rest ≡ others) → BeginsWith last AreOthers parts → map bare parts ≡ bare last ∷ others
begins_bare last AreOthers others [] each is = absurd is
begins_bare last AreOthers others (part ∷ rest) each is =
    ap (λ (p : PlainTest). bare p ∷ map bare rest) is.0 ∙ ap (λ (bs : List Bare). bare last ∷ bs) (each rest is.1)

parts_by : (joined : Option Single) (last test : PlainTest) (more parts : List PlainTest)
    → ((last : PlainTest) (parts : List PlainTest) → AreOperands last more parts → map bare parts ≡ bare_parts (bare last) (map bare more))
    → MatchOption joined (BeginsWith last (AreOperands test more) parts) (λ single. (one : PlainTest) × IsSingle single one × AreOperands one more parts)
    → map bare parts ≡ on_joined joined (bare last ∷ bare_parts (bare test) (map bare more)) (λ joined. bare_parts joined (map bare more))
parts_by None last test more parts each are = begins_bare last (AreOperands test more) (bare_parts (bare test) (map bare more)) parts (λ rest is. each test rest is) are
parts_by (Some single) last test more parts each are =
    each are.0 parts are.2 ∙ ap (λ (b : Bare). bare_parts b (map bare more)) (single_bare single are.0 are.1)

parts_are : (last : PlainTest) (tests parts : List PlainTest) → AreOperands last tests parts → map bare parts ≡ bare_parts (bare last) (map bare tests)
parts_are last [] parts are = ap (map bare) are
parts_are last (test ∷ more) parts are =
    parts_by (joined_single last test) last test more parts (λ last parts is. parts_are last more parts is) are
    ∙ ap (λ (s : Option Single). on_joined s (bare last ∷ bare_parts (bare test) (map bare more)) (λ joined. bare_parts joined (map bare more))) (neighbours_bare last test)

abbrev bare_of_parts : List Bare → Bare
bare_of_parts (part ∷ []) = part
bare_of_parts [] = bare_all no_bares
bare_of_parts (part ∷ other ∷ more) = bare_all (bares (part ∷ other ∷ more))

of_parts_bare : (parts : List PlainTest) (test : PlainTest) → IsOfOperands parts test → bare test ≡ bare_of_parts (map bare parts)
of_parts_bare [] test is = ap bare is.1 ∙ all_bare is.0 ∙ ap (λ (ts : List PlainTest). bare_all (bares (map bare ts))) is.2
of_parts_bare (part ∷ []) test is = ap bare is
of_parts_bare (part ∷ other ∷ more) test is = ap bare is.1 ∙ all_bare is.0 ∙ ap (λ (ts : List PlainTest). bare_all (bares (map bare ts))) is.2

-- The test that each of several holds.
abbrev pub bare_all_of : List Bare → Bare
bare_all_of [] = bare_always
bare_all_of (first ∷ others) = bare_of_parts (bare_parts first others)

pub all_of_bare : (tests : List PlainTest) (test : PlainTest) → IsAllOf tests test → bare test ≡ bare_all_of (map bare tests)
all_of_bare [] test is = ap bare is
all_of_bare (first ∷ others) test is = of_parts_bare is.0 test is.2 ∙ ap bare_of_parts (parts_are first others is.0 is.1)
