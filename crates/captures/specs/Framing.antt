-- What frames of all formats share: the record in a frame, numbers in either order, the size that a length field states,
-- and the record in a packet. `Frames` has the frames.
use Rattle.std.specs.Prelude.{◌+◌, nat_lt, if◌then◌else◌, ℕ, List, Option, length, take, Result, Ok, Err}
use Rattle.byteorder.specs.Endian.{big_number, little_number}
use Rattle.captures.specs.Record.{record_length}
use Rattle.captures.specs.declared.fault.RecordFault.{RecordFault}
use Rattle.captures.specs.declared.fault.RecordFault.TheVariants.{ShortLength, LongLength, ShortRecord}
use Rattle.captures.specs.declared.format.Order.{Order}
use Rattle.captures.specs.declared.format.Order.TheVariants.{HighestFirst, LowestFirst}

-- A record in a frame: the interface of its packet among those of a pcapng file, from 0; the time of its packet, if
-- such times are read, in units of 2^-32 seconds; and the octets of the record. In a file of another format there is no
-- such interface.
pub record Framed : Type 0 where
  pub packet_interface : Option ℕ
  pub stamped : Option ℕ
  pub octets : List ℕ

-- What follows from the value, or the fault.
abbrev pub or_fault : {A B : Type 0} → Result A RecordFault → (A → Result B RecordFault) → Result B RecordFault
or_fault (Ok value) next = next value
or_fault (Err reason) next = Err reason

-- The number in the first four octets, in this order.
abbrev pub number_in_order : Order → List ℕ → ℕ
number_in_order HighestFirst octets = big_number 4 octets
number_in_order LowestFirst octets = little_number 4 octets

-- The number in the first two octets, in this order.
abbrev pub half_in_order : Order → List ℕ → ℕ
half_in_order HighestFirst octets = big_number 2 octets
half_in_order LowestFirst octets = little_number 2 octets

-- How many octets a frame has whose length field says `stated`: those, and `before` more that the field doesn't count. `stated` is from
-- `least` to `most`, or it is a fault.
abbrev pub sized : ℕ → ℕ → ℕ → ℕ → Result ℕ RecordFault
sized before least most stated =
    if nat_lt stated least then Err (ShortLength stated)
    else if nat_lt most stated then Err (LongLength stated)
    else Ok (before + stated)

-- The record in a packet: as many of its octets as the record's header says, or all if the packet has fewer. If the packet, or that
-- length, has fewer than the 16 octets of a record's first header, it is a fault.
abbrev pub record_in_packet : List ℕ → Result (List ℕ) RecordFault
record_in_packet packet =
    if nat_lt (length packet) 16 then Err ShortRecord
    else if nat_lt (record_length packet) 16 then Err ShortRecord
    else Ok (take (record_length packet) packet)
