-- The test that each of several tests holds, as `all_of` makes it.
use Rattle.std.proofs.Common.{◌≡◌, ℕ, Bool, true, false, ◌&&◌, List, [], ◌∷◌, ◌++◌, length, take, drop, get_or, ◌<◌, Option, Some, None, Vec, Global, refl, sym, ap, subst, ◌∙◌, arith}
use Rattle.std.specs.Option.{MatchOption}
use Rattle.rules_code.specs.PlainTests.{holds}
use Rattle.rules_code.specs.Neighbours.{AreOperands, BeginsWith, IsAllOf, IsOfOperands, IsSingle, joined_single}
use Rattle.rules_code.specs.inner.Chains.{each_holds}
use Rattle.rules_code.specs.declared.packet_part.Single.{Single}
use Rattle.rules_code.specs.declared.plain_test.PlainTest.{PlainTest, AllOf}
use Rattle.rules_code.proofs.Chains.{holds_all}
use Rattle.rules_code.proofs.JoinedSingles.{joined_holds}

and_true : (x : Bool) → x ≡ (x && true)
and_true true = refl
and_true false = refl

and_grouped : (x y z : Bool) → ((x && y) && z) ≡ (x && (y && z))
and_grouped true y z = refl
and_grouped false y z = refl

module _ (packet : List ℕ) where
  -- A test and the next, which is joined to it or kept as a part of its own.
  parts_by : (last test : PlainTest) (more parts : List PlainTest) (found : Option Single) → joined_single last test ≡ found
      → ((one : PlainTest) (some : List PlainTest) → AreOperands one more some → each_holds some packet ≡ (holds one packet && each_holds more packet))
      → MatchOption found (BeginsWith last (AreOperands test more) parts) (λ single. (joined : PlainTest) × IsSingle single joined × AreOperands joined more parts)
      → each_holds parts packet ≡ (holds last packet && (holds test packet && each_holds more packet))
  parts_by last test more [] None e rest are = absurd are
  parts_by last test more (part ∷ parts) None e rest are =
      ap (λ (t : PlainTest). holds t packet && each_holds parts packet) are.0 ∙ ap (λ b. holds last packet && b) (rest test parts are.1)
  parts_by last test more parts (Some single) e rest are =
      rest are.0 parts are.2
      ∙ (ap (λ b. b && each_holds more packet) (joined_holds last test are.0 packet single e are.1) ∙ and_grouped (holds last packet) (holds test packet) (each_holds more packet))

  parts_hold : (last : PlainTest) (more parts : List PlainTest) → AreOperands last more parts → each_holds parts packet ≡ (holds last packet && each_holds more packet)
  parts_hold last [] parts are = ap (λ (ps : List PlainTest). each_holds ps packet) are
  parts_hold last (test ∷ more) parts are = parts_by last test more parts (joined_single last test) refl (λ one some a. parts_hold one more some a) are

  of_parts : (parts : List PlainTest) (test : PlainTest) → IsOfOperands parts test → holds test packet ≡ each_holds parts packet
  of_parts [] test of = ap (λ (t : PlainTest). holds t packet) of.1 ∙ (holds_all of.0 packet ∙ ap (λ (ps : List PlainTest). each_holds ps packet) of.2)
  of_parts (part ∷ []) test of = ap (λ (t : PlainTest). holds t packet) of ∙ and_true (holds part packet)
  of_parts (part ∷ second ∷ more) test of = ap (λ (t : PlainTest). holds t packet) of.1 ∙ (holds_all of.0 packet ∙ ap (λ (ps : List PlainTest). each_holds ps packet) of.2)

  -- It holds exactly if each does.
  pub all_of_holds : (tests : List PlainTest) (test : PlainTest) → IsAllOf tests test → holds test packet ≡ each_holds tests packet
  all_of_holds [] test is = ap (λ (t : PlainTest). holds t packet) is
  all_of_holds (first ∷ others) test is = of_parts is.0 test is.2 ∙ parts_hold first others is.0 is.1

-- ---- the loop that makes the parts

-- What the parts so far and those of the rest are together.
abbrev pub Completes : PlainTest → List PlainTest → List PlainTest → PlainTest → List PlainTest → Type 0
Completes first others done last rest = (parts : List PlainTest) → AreOperands last rest parts → AreOperands first others (done ++ parts)

-- ---- the whole test

pub removed : (tests : List PlainTest) (first : PlainTest) (others : List PlainTest) → 0 < length tests → first ≡ get_or tests 0 first → others ≡ take 0 tests ++ drop 1 tests → tests ≡ first ∷ others
removed [] first others some is rest = absurd (omega arith)
removed (test ∷ more) first others some is rest = ap (λ (t : PlainTest). t ∷ more) (sym is) ∙ ap (λ (ts : List PlainTest). first ∷ ts) (sym rest)

more_parts : (done : List PlainTest) (last : PlainTest) (tests : Vec PlainTest Global) → 0 < length done → tests.items ≡ done ++ last ∷ [] → IsOfOperands (done ++ last ∷ []) (AllOf tests)
more_parts [] last tests some e = absurd (omega arith)
more_parts (part ∷ []) last tests some e = (tests, refl, e)
more_parts (part ∷ second ∷ more) last tests some e = (tests, refl, e)

pub all_of_more : (tests : List PlainTest) (first : PlainTest) (others done : List PlainTest) (last : PlainTest) (parts : Vec PlainTest Global) → tests ≡ first ∷ others
    → AreOperands first others (done ++ last ∷ []) → parts.items ≡ done ++ last ∷ [] → 0 < length done → IsAllOf tests (AllOf parts)
all_of_more tests first others done last parts cut are added some =
    subst (λ (ts : List PlainTest). IsAllOf ts (AllOf parts)) (sym cut) (done ++ last ∷ [], are, more_parts done last parts some added)
