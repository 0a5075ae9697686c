-- The options in the description of an interface, which say in which unit the times of its packets are.
use Rattle.std.specs.Prelude.{◌+◌, ◌*◌, ◌/◌, ◌==◌, nat_lt, if◌then◌else◌, ℕ, zero, suc, List, length, take, drop, slice_index, Option, Some, None, Result, Ok, Err}
use Rattle.byteorder.specs.Endian.{big_number, little_number}
use Rattle.captures.specs.Framing.{half_in_order}
use Rattle.captures.specs.PacketTimes.{units_in_second}
use Rattle.captures.specs.declared.fault.RecordFault.{RecordFault}
use Rattle.captures.specs.declared.fault.RecordFault.TheVariants.{OtherResolution}
use Rattle.captures.specs.declared.format.Order.{Order}
use Rattle.captures.specs.declared.format.Order.TheVariants.{HighestFirst, LowestFirst}
use Rattle.captures.specs.declared.packet_time.TimeUnit.{TimeUnit}

-- The number in the first eight octets, in this order.
abbrev pub long_in_order : Order → List ℕ → ℕ
long_in_order HighestFirst octets = big_number 8 octets
long_in_order LowestFirst octets = little_number 8 octets

-- How many octets an option has whose value has this many: its code and its length before the value, and padding to a multiple of four.
abbrev pub option_octets : ℕ → ℕ
option_octets size = 4 + (size + 3) / 4 * 4

-- The value of the first option with this code among the first options, as many as this, of these octets. An option has
-- its code and the length of its value, of two octets each. One of code 0 is the last, and one that ends after the
-- octets has no value.
unfoldable pub option_among : ℕ → Order → ℕ → List ℕ → Option (List ℕ)
option_among zero order code octets = None
option_among (suc count) order code octets =
    if nat_lt (length octets) 4 then None
    else if half_in_order order octets == 0 then None
    else if nat_lt (length octets) (4 + half_in_order order (drop 2 octets)) then None
    else if half_in_order order octets == code then Some (take (half_in_order order (drop 2 octets)) (drop 4 octets))
    else option_among count order code (drop (option_octets (half_in_order order (drop 2 octets))) octets)

-- The value of the first option with this code. Each has four octets at least.
abbrev pub option_of : Order → ℕ → List ℕ → Option (List ℕ)
option_of order code octets = option_among (length octets / 4) order code octets

-- The resolution in the option `if_tsresol` (9): its first octet. Without it, times are in microseconds.
abbrev pub resolution_in : Option (List ℕ) → ℕ
resolution_in None = 6
resolution_in (Some value) = if nat_lt (length value) 1 then 6 else slice_index value 0

-- The seconds in the option `if_tsoffset` (14), which are added to each time. Negative numbers are those of 64 bits.
abbrev pub ahead_in : Order → Option (List ℕ) → ℕ
ahead_in order None = 0
ahead_in order (Some value) = if nat_lt (length value) 8 then 0 else long_in_order order value

-- The unit of this resolution, if it is read.
abbrev pub unit_of_resolution : ℕ → ℕ → Result TimeUnit RecordFault
unit_of_resolution resolution ahead =
    if units_in_second resolution == 0 then Err (OtherResolution resolution)
    else Ok (record { resolution = resolution; ahead = ahead })

-- The unit of the times of packets of an interface that has these options.
abbrev pub unit_of_options : Order → List ℕ → Result TimeUnit RecordFault
unit_of_options order options = unit_of_resolution (resolution_in (option_of order 9 options)) (ahead_in order (option_of order 14 options))
