-- A record, from its octets.
use Rattle.std.specs.Prelude.{◌≡◌, ℕ, unwrap_or}
use Rattle.captures.specs.Framing.{Framed}
use Rattle.captures.specs.Links.{IsChannelOf}
use Rattle.captures.specs.Marks.{AreMarksOf}
use Rattle.captures.specs.Record.{record_interface, record_time}
use Rattle.captures.specs.RecordContent.{IsContent}
use Rattle.captures.specs.declared.reader.Record.{Record}

-- The time of a record in a frame: that of its packet, if such times are read, and otherwise its own.
abbrev pub time_in : Framed → ℕ
time_in framed = unwrap_or framed.stamped (record_time framed.octets)

-- The record with this number, in this frame.
pub record IsRecordOf (number : ℕ) (framed : Framed) (record_read : Record) : Type 0 where
  pub numbered : record_read.number ≡ number
  pub packet_interface : record_read.link.packet_interface ≡ framed.packet_interface
  pub interface : record_read.link.interface ≡ record_interface framed.octets
  pub channel : IsChannelOf framed.octets record_read.content record_read.link.channel
  pub marks : AreMarksOf framed.octets record_read.content record_read.marks
  pub time : record_read.time ≡ time_in framed
  pub content : IsContent framed.octets record_read.content
