-- Lemmas for proofs of other crates.
use Rattle.std.proofs.Common.{◌≡◌, ℕ, ◌≤◌, List, ◌∷◌, drop, Vec, Global}
use Rattle.byteorder.specs.Endian.{big_number}
use Rattle.bpf_interp.specs.Packet.{octets_loaded}
use Rattle.rules_code.specs.Bounds.{IsComparison, most_in}
use Rattle.rules_code.specs.PlainTests.{holds, is_among, number_of}
use Rattle.rules_code.specs.Neighbours.{IsAllOf}
use Rattle.rules_code.specs.inner.Chains.{each_holds, some_holds}
use Rattle.rules_code.specs.declared.packet_part.Part.{Part}
use Rattle.rules_code.specs.declared.packet_part.Span.{Span}
use Rattle.rules_code.specs.declared.plain_test.PlainTest.{PlainTest, AnyOf}
use Rattle.rules_code.proofs.AllOf as all_of
use Rattle.rules_code.proofs.BoundTests as bounds
use Rattle.rules_code.proofs.Chains as chains

-- The test that each of several tests holds, as `all_of` makes it, holds exactly if each does.
pub all_of_holds : (tests : List PlainTest) (test : PlainTest) (packet : List ℕ) → IsAllOf tests test → holds test packet ≡ each_holds tests packet
all_of_holds tests test packet is = all_of.all_of_holds packet tests test is

-- The test that one of several tests holds, holds exactly if one does.
pub any_of_holds : (tests : Vec PlainTest Global) (packet : List ℕ) → holds (AnyOf tests) packet ≡ some_holds tests.items packet
any_of_holds = chains.holds_any

-- A comparison, as `comparison_test` makes it, holds exactly if the part is in one of the spans, in a packet where no octets are greater than
-- they can be.
pub comparison_holds : (part : Part) (first : Span) (others : List Span) (test : PlainTest) (packet : List ℕ) → big_number (octets_loaded part.size) (drop part.at packet) ≤ most_in part.size
    → IsComparison part first others test → holds test packet ≡ is_among (first ∷ others) (number_of part packet)
comparison_holds = bounds.comparison_holds
