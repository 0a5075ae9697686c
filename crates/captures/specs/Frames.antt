-- The frame with which octets begin: how long it is, and what it holds.
use Rattle.std.specs.Prelude.{◌+◌, ◌*◌, ◌^◌, nat_lt, if◌then◌else◌, Bool, true, false, ℕ, List, length, take, drop, Option, Some, None, option_and_then, Result, Ok, Err}
use Rattle.captures.specs.Blocks.{block_held, block_size}
use Rattle.captures.specs.Framing.{Framed, number_in_order, or_fault, record_in_packet, sized}
use Rattle.captures.specs.PacketTimes.{packet_time, units_of_second}
use Rattle.captures.specs.Record.{record_length}
use Rattle.captures.specs.declared.block.SkippedKind.{SkippedKind}
use Rattle.captures.specs.declared.fault.RecordFault.{RecordFault}
use Rattle.captures.specs.declared.fault.RecordFault.TheVariants.{TooFar}
use Rattle.captures.specs.declared.format.Format.{Format}
use Rattle.captures.specs.declared.format.Format.TheVariants.{Erf, Pcap, PcapNg}
use Rattle.captures.specs.declared.format.Order.{Order}
use Rattle.captures.specs.declared.packet_time.PacketTimes.{PacketTimes}
use Rattle.captures.specs.declared.packet_time.TimeSource.{TimeSource}
use Rattle.captures.specs.declared.packet_time.TimeSource.TheVariants as source
use Rattle.captures.specs.declared.packet_time.TimeUnit.{TimeUnit}

-- Whether the time of a record's packet counts.
abbrev pub is_of_packet : TimeSource → Bool
is_of_packet source.Record = false
is_of_packet source.Packet = true

-- How many octets come before the first frame.
abbrev pub format_start : Format → ℕ
format_start Erf = 0
format_start (Pcap order times) = 24
format_start (PcapNg section) = 0

-- The same file, where this time of a record counts.
abbrev pub format_timed : TimeSource → Format → Format
format_timed timing Erf = Erf
format_timed timing (Pcap order times) = Pcap order (record times { are_read = is_of_packet timing })
format_timed timing (PcapNg section) = PcapNg (record section { times = record section.times { are_read = is_of_packet timing } })

-- How many octets of a frame must be there before its length can be read: the first header of a record, the header of a packet, or the
-- beginning of a block.
abbrev pub head_length : Format → ℕ
head_length Erf = 16
head_length (Pcap order times) = 16
head_length (PcapNg section) = 12

-- How many octets a frame has: the record's length; the header of a packet, and the number in its octets 8 to 11; the
-- block's length. A record has 16 to 65,535 octets, and a block 12 to 131,072.
unfoldable pub frame_size : Format → List ℕ → Result ℕ RecordFault
frame_size Erf octets = sized 0 16 65535 (record_length octets)
frame_size (Pcap order times) octets = sized 16 16 65535 (number_in_order order (drop 8 octets))
frame_size (PcapNg section) octets = block_size section octets

-- How many units of time the header of a packet of a pcap file counts: seconds in its first four octets, and units in the next four.
abbrev pub pcap_stamp : Order → TimeUnit → List ℕ → ℕ
pcap_stamp order unit frame = number_in_order order frame * units_of_second unit + number_in_order order (drop 4 frame)

-- The time of such a packet, if such times are read.
abbrev pub pcap_time : Order → PacketTimes → List ℕ → Option ℕ
pcap_time order times frame = option_and_then (λ unit. packet_time times (pcap_stamp order unit frame)) times.unit

-- How the file goes on after a whole frame, and the record in the frame, or what is skipped.
unfoldable pub frame_held : Format → List ℕ → Result (Format × Result Framed SkippedKind) RecordFault
frame_held Erf frame = Ok (Erf, Ok (record { packet_interface = None; stamped = None; octets = frame }))
frame_held (Pcap order times) frame = or_fault (record_in_packet (drop 16 frame)) (λ octets.
    Ok (Pcap order times, Ok (record { packet_interface = None; stamped = pcap_time order times frame; octets = octets })))
frame_held (PcapNg section) frame = or_fault (block_held section frame) (λ held. Ok (PcapNg held.0, held.1))

-- What the first frame of a file's octets is: how many octets it has, and what it holds.
pub record Frame : Type 0 where
  pub size : ℕ
  pub after : Format
  pub held : Result Framed SkippedKind

-- A whole frame, which ends before octet 2^64 of the file.
abbrev pub held_frame : ℕ → ℕ → Result (Format × Result Framed SkippedKind) RecordFault → Result Frame RecordFault
held_frame at size held =
    or_fault held (λ it. if nat_lt (at + size) (2 ^ 64) then Ok (record { size = size; after = it.0; held = it.1 }) else Err TooFar)

-- The frame of this size at the start of the octets, if there are that many.
abbrev pub frame_of_size : Format → ℕ → List ℕ → Result ℕ RecordFault → Option (Result Frame RecordFault)
frame_of_size format at octets (Err reason) = Some (Err reason)
frame_of_size format at octets (Ok size) =
    if nat_lt (length octets) size then None else Some (held_frame at size (frame_held format (take size octets)))

-- The frame with which octets begin, which come at this place of a file, or why they begin with none. None: they end inside a frame.
abbrev pub first_frame : Format → ℕ → List ℕ → Option (Result Frame RecordFault)
first_frame format at octets =
    if nat_lt (length octets) (head_length format) then None else frame_of_size format at octets (frame_size format octets)
