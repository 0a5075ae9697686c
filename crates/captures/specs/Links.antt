-- The link of a cell: the physical line that it came by. Two lines of a capture differ in some part.
use Rattle.std.specs.Prelude.{◌≡◌, ◌-◌, ◌/◌, ◌%◌, ◌==◌, ◌&&◌, if◌then◌else◌, Bool, true, false, ℕ, List, drop, Option, Some, None, Result, Ok, Err}
use Rattle.byteorder.specs.Endian.{big_number}
use Rattle.captures.specs.Record.{record_type}
use Rattle.captures.specs.RecordContent.{FromCellPlace}
use Rattle.captures.specs.declared.content.NoCell.{NoCell}
use Rattle.captures.specs.declared.link.Channel.{Channel}
use Rattle.captures.specs.declared.link.Link.{Link}

-- The channel in a multi-channel header, as the number in its four octets, the highest first: the physical port is in
-- bits 16 to 19, and the number of the connection in bits 0 to 10.
abbrev pub channel_in_header : ℕ → Channel
channel_in_header header = record { port = header / 65536 % 16; connection = header % 2048 }

-- The channel of a record whose cell begins at this place: a record of type 7 (MC_ATM) has a multi-channel header before the cell.
abbrev pub channel_before : List ℕ → ℕ → Option Channel
channel_before octets place =
    if record_type octets == 7 then Some (channel_in_header (big_number 4 (drop (place - 4) octets))) else None

-- The channel of a record that holds this. A record without a cell has none.
abbrev pub IsChannelOf : List ℕ → Result (List ℕ) NoCell → Option Channel → Type 0
IsChannelOf octets (Err why) channel = channel ≡ None
IsChannelOf octets (Ok cell) channel = FromCellPlace octets (λ place. channel ≡ channel_before octets place)

-- Whether two packets have the same interface, or both have none.
abbrev pub same_packet_interface : Option ℕ → Option ℕ → Bool
same_packet_interface None None = true
same_packet_interface None (Some other) = false
same_packet_interface (Some one) None = false
same_packet_interface (Some one) (Some other) = one == other

-- Whether two channels are the same, or neither is there.
abbrev pub same_channel : Option Channel → Option Channel → Bool
same_channel None None = true
same_channel None (Some other) = false
same_channel (Some one) None = false
same_channel (Some one) (Some other) = one.port == other.port && one.connection == other.connection

-- Whether two links are the same.
abbrev pub same_link : Link → Link → Bool
same_link one other =
    one.interface == other.interface && same_packet_interface one.packet_interface other.packet_interface && same_channel one.channel other.channel
