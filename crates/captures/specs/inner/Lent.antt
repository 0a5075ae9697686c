-- The record in a frame, as a list of octets.
use Rattle.std.specs.Prelude.{Option, Some, None, Result, Ok, Err}
use Rattle.captures.specs.Framing.{Framed}
use Rattle.captures.specs.declared.block.Section.{Section}
use Rattle.captures.specs.declared.block.SkippedKind.{SkippedKind}
use Rattle.captures.specs.declared.format.Format.{Format}
use Rattle.captures.specs.declared.format.Format.TheVariants.{PcapNg}
use Rattle.captures.specs.declared.format.LentRecord.{LentRecord}

-- What contracts see of a record that is lent.
abbrev pub framed_of : LentRecord → Framed
framed_of lent = record { packet_interface = lent.packet_interface; stamped = lent.stamped; octets = lent.octets.now }

-- The same of what a frame holds.
abbrev pub held_of : Result LentRecord SkippedKind → Result Framed SkippedKind
held_of (Ok lent) = Ok (framed_of lent)
held_of (Err unread) = Err unread

-- How a file goes on after a frame: in this section, if it is a pcapng file.
abbrev pub format_after : Format → Option Section → Format
format_after format None = format
format_after format (Some section) = PcapNg section
