-- A record as capture cards write it, in the Extensible Record Format (ERF), as the list of its octets.
use Rattle.std.specs.Prelude.{◌≤◌, ◌<◌, ◌*◌, ◌+◌, ◌/◌, ◌%◌, ℕ, List, drop, slice_index}
use Rattle.byteorder.specs.Endian.{big_number, little_number}

-- The time at which a record was received: the number in its first eight octets, the lowest first, in units of 2^-32
-- seconds since 1970.
abbrev pub record_time : List ℕ → ℕ
record_time octets = little_number 8 octets

-- The type of a record: the lower seven bits of octet 8.
abbrev pub record_type : List ℕ → ℕ
record_type octets = slice_index octets 8 % 128

-- The flags of a record: octet 9.
abbrev pub record_flags : List ℕ → ℕ
record_flags octets = slice_index octets 9

-- The interface at which a record was received: bits 0 and 1 of its flags, and bit 6 as the third bit. Cards of up to four interfaces
-- leave bit 6 at 0.
abbrev pub record_interface : List ℕ → ℕ
record_interface octets = record_flags octets % 4 + 4 * (record_flags octets / 64 % 2)

-- How many records were lost before this one: the number in octets 12 and 13, the highest first. Records of cells have this loss counter.
unfoldable pub record_losses : List ℕ → ℕ
record_losses octets = big_number 2 (drop 12 octets)

-- How many octets came by the link: the number in octets 14 and 15, the highest first.
unfoldable pub record_wire_length : List ℕ → ℕ
record_wire_length octets = big_number 2 (drop 14 octets)

-- The length of a record with all of its headers, in octets: the number in octets 10 and 11, the highest first.
unfoldable pub record_length : List ℕ → ℕ
record_length octets = big_number 2 (drop 10 octets)

-- A record has this number of extension headers, each of eight octets. The highest bit of octet 8 is set if one follows
-- the header; the highest bit of an extension header's first octet is set if another one follows.
pub record HasExtensions (octets : List ℕ) (count : ℕ) : Type 0 where
  pub more : (k : ℕ) → k < count → 128 ≤ slice_index octets (8 + 8 * k)
  pub last : slice_index octets (8 + 8 * count) < 128
