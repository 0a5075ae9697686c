-- The times in the headers of packets. A header counts units of time since 1970; how long a unit is, the file says.
use Rattle.std.specs.Prelude.{◌+◌, ◌-◌, ◌*◌, ◌/◌, ◌%◌, ◌^◌, ◌==◌, ◌&&◌, nat_le, nat_lt, max, if◌then◌else◌, Bool, false, ℕ, Option, Some, None, option_map}
use Rattle.captures.specs.declared.packet_time.PacketTimes.{PacketTimes}
use Rattle.captures.specs.declared.packet_time.TimeUnit.{TimeUnit}

-- How many units of this resolution a second has: resolution N means 10^-N seconds, and 128 + N means 2^-N seconds, as in the option
-- `if_tsresol`. A unit that is too short for 64 bits isn't read, and has 0.
abbrev pub units_in_second : ℕ → ℕ
units_in_second resolution =
    if nat_lt resolution 20 then 10 ^ resolution
    else if nat_le 128 resolution && nat_lt resolution 192 then 2 ^ (resolution - 128)
    else 0

-- How many of these units a second has, one at least.
abbrev pub units_of_second : TimeUnit → ℕ
units_of_second unit = max (units_in_second unit.resolution) 1

-- The time of a packet that counts this many units, in units of 2^-32 seconds. As in the time of a record, seconds have 32 bits, and the
-- part of a second is rounded down.
abbrev pub time_of_stamp : TimeUnit → ℕ → ℕ
time_of_stamp unit stamp =
    (stamp / units_of_second unit + unit.ahead) % 2 ^ 32 * 2 ^ 32 + stamp % units_of_second unit * 2 ^ 32 / units_of_second unit

-- Whether two units are the same.
abbrev pub same_unit : TimeUnit → TimeUnit → Bool
same_unit one other = one.resolution == other.resolution && one.ahead == other.ahead

-- The time of a packet that counts this many units, if the times of packets are read and the unit is known.
abbrev pub packet_time : PacketTimes → ℕ → Option ℕ
packet_time times stamp = if times.are_read then option_map (λ unit. time_of_stamp unit stamp) times.unit else None

-- The times of packets in microseconds or nanoseconds, not read unless they are asked for.
abbrev pub times_in : ℕ → PacketTimes
times_in resolution = record { are_read = false; unit = Some (record { resolution = resolution; ahead = 0 }) }

-- The times of the packets of a new section, whose unit isn't known yet.
abbrev pub times_begun : PacketTimes → PacketTimes
times_begun before = record before { unit = None }
