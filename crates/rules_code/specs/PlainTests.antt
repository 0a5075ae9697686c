-- When a test on the numbers in a packet holds.
use Rattle.std.specs.Prelude.{ℕ, Bool, true, false, not, ◌&&◌, ◌||◌, nat_le, bit_and, List, [], ◌∷◌, drop, Option, Some, None}
use Rattle.byteorder.specs.Endian.{big_number}
use Rattle.bpf_interp.specs.Packet.{octets_loaded}
use Rattle.rules_code.specs.declared.packet_part.Part.{Part}
use Rattle.rules_code.specs.declared.packet_part.Span.{Span}
use Rattle.rules_code.specs.declared.plain_test.PlainTest.{PlainTest, Row_of-PlainTest, end_of-PlainTest, more_of-PlainTest}
use Rattle.rules_code.specs.declared.plain_test.PlainTest as plain

-- The bits of a number that a mask keeps.
abbrev pub kept_bits : Option ℕ → ℕ → ℕ
kept_bits None number = number
kept_bits (Some mask) number = bit_and number mask

-- The number that a part has in a packet.
abbrev pub number_of : Part → List ℕ → ℕ
number_of part packet = kept_bits part.mask (big_number (octets_loaded part.size) (drop part.at packet))

-- Whether a number is in a span.
abbrev pub is_in : Span → ℕ → Bool
is_in span number = nat_le span.low number && nat_le number span.high

-- Whether a number is in one of these spans.
abbrev pub is_among : List Span → ℕ → Bool
is_among [] number = false
is_among (span ∷ more) number = is_in span number || is_among more number

abbrev mutual
  -- Whether the test holds of a packet.
  pub holds : PlainTest → List ℕ → Bool
  holds plain.Always packet = true
  holds (plain.Among part first others) packet = is_among (first ∷ others.items) (number_of part packet)
  holds (plain.Not' p test) packet = not (holds test packet)
  holds (plain.AllOf' shape tests) packet = all_hold tests packet
  holds (plain.AnyOf' shape tests) packet = one_holds tests packet

  -- Whether each of these tests holds.
  pub all_hold : {n : _} → Row_of-PlainTest n → List ℕ → Bool
  all_hold end_of-PlainTest packet = true
  all_hold (more_of-PlainTest test more) packet = holds test packet && all_hold more packet

  -- Whether one of these tests holds.
  pub one_holds : {n : _} → Row_of-PlainTest n → List ℕ → Bool
  one_holds end_of-PlainTest packet = false
  one_holds (more_of-PlainTest test more) packet = holds test packet || one_holds more packet
