-- The blocks of a pcapng file. Each begins with its type and its length, of four octets each, and ends with its length.
use Rattle.std.specs.Prelude.{◌+◌, ◌-◌, ◌*◌, ◌/◌, ◌%◌, ◌^◌, ◌==◌, ◌&&◌, ◌||◌, bit_or, nat_lt, nat_le, min, if◌then◌else◌, Bool, true, false, ℕ, List, length, take, drop, Option, Some, None, Result, Ok, Err}
use Rattle.byteorder.specs.Endian.{big_number}
use Rattle.captures.specs.Framing.{Framed, half_in_order, number_in_order, or_fault, record_in_packet, sized}
use Rattle.captures.specs.InterfaceOptions.{unit_of_options}
use Rattle.captures.specs.PacketTimes.{packet_time, same_unit, times_begun}
use Rattle.captures.specs.declared.block.Section.{Section}
use Rattle.captures.specs.declared.block.SkippedKind.{SkippedKind}
use Rattle.captures.specs.declared.block.SkippedKind.TheVariants.{NoPacket, Entry, SimplePacket, OldPacket, OtherBlock, OtherLinkPacket}
use Rattle.captures.specs.declared.fault.RecordFault.{RecordFault}
use Rattle.captures.specs.declared.fault.RecordFault.TheVariants.{OddLength, LengthsDiffer, OtherMagic, OtherVersion, ShortBlock, OtherLink, NoInterface, LongPacket, OtherUnit}
use Rattle.captures.specs.declared.format.Order.{Order}
use Rattle.captures.specs.declared.format.Order.TheVariants.{HighestFirst, LowestFirst}
use Rattle.captures.specs.declared.packet_time.PacketTimes.{PacketTimes}
use Rattle.captures.specs.declared.packet_time.TimeUnit.{TimeUnit}

-- The most octets of a block.
abbrev pub most_block : ℕ
most_block = 131072

-- A section header has this type, in both orders.
abbrev pub is_section_header : List ℕ → Bool
is_section_header octets = big_number 4 octets == 0x0a0d0d0a

-- The order of the numbers in a section whose header has this number, read the highest octet first, as its byte-order magic.
abbrev pub order_of_magic : ℕ → Result Order RecordFault
order_of_magic magic =
    if magic == 0x1a2b3c4d then Ok HighestFirst
    else if magic == 0x4d3c2b1a then Ok LowestFirst
    else Err (OtherMagic magic)

-- The order of the numbers in a block of a section. A section header has it in octets 8 to 11.
abbrev pub block_order : Section → List ℕ → Result Order RecordFault
block_order section octets =
    if is_section_header octets then order_of_magic (big_number 4 (drop 8 octets)) else Ok section.order

-- The size of a block is a multiple of four.
abbrev pub even_block : ℕ → Result ℕ RecordFault
even_block size = if size % 4 == 0 then Ok size else Err (OddLength size)

-- How many octets a block has: the number in octets 4 to 7.
abbrev pub block_size : Section → List ℕ → Result ℕ RecordFault
block_size section octets =
    or_fault (block_order section octets) (λ order.
    or_fault (sized 0 12 most_block (number_in_order order (drop 4 octets))) even_block)

-- The state at the beginning of a section with numbers in this order, after this number of interfaces in earlier sections. It has no
-- interface of its own, and this is known of the times of its packets.
abbrev pub section_begun : Order → ℕ → PacketTimes → Section
section_begun order before times = record { order = order; before = before; interfaces = 0; others = 0; times = times }

-- The number of an interface among those of the whole file, by its number in its section. Both count from 0.
abbrev pub interface_in_file : Section → ℕ → ℕ
interface_in_file section interface = min (section.before + interface) (2 ^ 64 - 1)

-- A section has one interface more. An interface is named by a number below 2^32.
abbrev pub with_interface : Section → Section
with_interface section = record section { interfaces = min (section.interfaces + 1) (2 ^ 64 - 1) }

-- The same, where the packets of the new interface are no records: its bit among the others is set. Only the first 64 interfaces
-- have a bit.
abbrev pub with_other_interface : Section → Section
with_other_interface section =
    record section { interfaces = min (section.interfaces + 1) (2 ^ 64 - 1); others = bit_or section.others (2 ^ section.interfaces) }

-- Whether the packets of an interface are no records.
abbrev pub is_other_interface : Section → ℕ → Bool
is_other_interface section interface = nat_lt interface 64 && (section.others / 2 ^ interface) % 2 == 1

-- The section that a section header of version 1 begins after another section.
abbrev pub section_of_header : Section → Order → List ℕ → Result Section RecordFault
section_of_header section order block =
    if nat_lt (length block) 28 then Err (ShortBlock (length block))
    else if half_in_order order (drop 12 block) == 1 then Ok (section_begun order (interface_in_file section section.interfaces) (times_begun section.times))
    else Err (OtherVersion (half_in_order order (drop 12 block)))

-- A section has one interface of records more, whose times are in this unit. The first such interface decides the unit of all.
abbrev pub timed_in_unit : Section → Option TimeUnit → TimeUnit → Result Section RecordFault
timed_in_unit section None unit = Ok (with_interface (record section { times = record section.times { unit = Some unit } }))
timed_in_unit section (Some known) unit = if same_unit known unit then Ok (with_interface section) else Err (OtherUnit unit.resolution)

-- The same, where this block describes the interface. Its options, from octet 16 on, matter if the times of packets are read.
abbrev pub with_record_interface : Section → List ℕ → Result Section RecordFault
with_record_interface section block =
    if section.times.are_read
    then or_fault (unit_of_options section.order (take (length block - 20) (drop 16 block))) (timed_in_unit section section.times.unit)
    else Ok (with_interface section)

-- The section after the description of an interface. Its packets are records if its link type, in octets 8 and 9, is 197.
abbrev pub section_of_interface : Section → List ℕ → Result Section RecordFault
section_of_interface section block =
    if nat_lt (length block) 20 then Err (ShortBlock (length block))
    else if half_in_order section.order (drop 8 block) == 197 then with_record_interface section block
    else if nat_lt section.interfaces 64 then Ok (with_other_interface section)
    else Err (OtherLink (half_in_order section.order (drop 8 block)))

-- How many units of time an enhanced packet block counts: the number in octets 12 to 15 is the upper half, that in
-- octets 16 to 19 the lower.
abbrev pub stamp_in_block : Order → List ℕ → ℕ
stamp_in_block order block = number_in_order order (drop 12 block) * 2 ^ 32 + number_in_order order (drop 16 block)

-- The record in an enhanced packet block, or that its interface has no records: in octets 8 to 11 is the number of an
-- interface, from 0, in octets 20 to 23 the length of the packet, and the packet begins with octet 28. What comes after
-- it is not read.
abbrev pub record_of_packet : Section → List ℕ → Result (Result Framed SkippedKind) RecordFault
record_of_packet section block =
    if nat_lt (length block) 32 then Err (ShortBlock (length block))
    else if nat_le section.interfaces (number_in_order section.order (drop 8 block))
    then Err (NoInterface (number_in_order section.order (drop 8 block)))
    else if nat_lt (length block) (32 + number_in_order section.order (drop 20 block))
    then Err (LongPacket (number_in_order section.order (drop 20 block)))
    else if is_other_interface section (number_in_order section.order (drop 8 block)) then Ok (Err OtherLinkPacket)
    else or_fault (record_in_packet (take (number_in_order section.order (drop 20 block)) (drop 28 block))) (λ octets.
    Ok (Ok (record {
      packet_interface = Some (interface_in_file section (number_in_order section.order (drop 8 block)));
      stamped = packet_time section.times (stamp_in_block section.order block);
      octets = octets;
    })))

-- A block of this type has no packet: names (4), statistics (5), or secrets (10).
abbrev pub lacks_packet : ℕ → Bool
lacks_packet kind = kind == 4 || kind == 5 || kind == 10

-- A block of this type has no packet either, but a number, as packets have: an entry of a systemd journal (9), or custom data.
abbrev pub is_entry : ℕ → Bool
is_entry kind = kind == 9 || kind == 0xbad || kind == 0x40000bad

-- The kind of a skipped block, by its type: a simple packet (3), an obsolete packet (2), one without a packet, or one of an unknown type.
abbrev pub unread_of_type : ℕ → SkippedKind
unread_of_type kind =
    if kind == 3 then SimplePacket
    else if kind == 2 then OldPacket
    else if lacks_packet kind then NoPacket
    else if is_entry kind then Entry
    else OtherBlock kind

-- Whether a skipped block or packet has a number, as records have. Wireshark gives a frame number to the same ones.
abbrev pub has_number : SkippedKind → Bool
has_number NoPacket = false
has_number Entry = true
has_number SimplePacket = true
has_number OldPacket = true
has_number (OtherBlock kind) = false
has_number OtherLinkPacket = true

-- How many numbers were given up to a skipped block or packet, itself included, if this many were given before it.
abbrev pub count_past : ℕ → SkippedKind → ℕ
count_past count unread = if has_number unread then count + 1 else count

-- The section after a block of this type, and the record in the block, or what is skipped.
abbrev pub held_of_type : Section → Order → ℕ → List ℕ → Result (Section × Result Framed SkippedKind) RecordFault
held_of_type section order kind block =
    if kind == 0x0a0d0d0a then or_fault (section_of_header section order block) (λ begun. Ok (begun, Err NoPacket))
    else if kind == 1 then or_fault (section_of_interface section block) (λ more. Ok (more, Err NoPacket))
    else if kind == 6 then or_fault (record_of_packet section block) (λ held. Ok (section, held))
    else Ok (section, Err (unread_of_type kind))

-- The order of the numbers in a whole block, which ends with its length.
abbrev pub whole_block_order : Section → List ℕ → Result Order RecordFault
whole_block_order section block =
    or_fault (block_order section block) (λ order.
    if number_in_order order (drop (length block - 4) block) == length block then Ok order
    else Err (LengthsDiffer (number_in_order order (drop (length block - 4) block))))

-- The section after a whole block, and the record in the block, or what is skipped.
abbrev pub block_held : Section → List ℕ → Result (Section × Result Framed SkippedKind) RecordFault
block_held section block =
    or_fault (whole_block_order section block) (λ order. held_of_type section order (number_in_order order block) block)
