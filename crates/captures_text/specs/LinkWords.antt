-- The word for a link: in a fault that names it, and as `--link` takes it.
use Rattle.std.specs.Prelude.{ℕ, List, [], ◌++◌, codes, decimal, Option, Some, None}
use Rattle.captures.specs.declared.link.Channel.{Channel}
use Rattle.captures.specs.declared.link.Link.{Link}

-- In a pcapng file it begins with the interface of the packet, and a colon.
abbrev pub packet_part : Option ℕ → List ℕ
packet_part None = []
packet_part (Some interface) = decimal interface ++ codes ":"

-- The port and the connection of a multi-channel header come last, each after a slash.
abbrev pub channel_part : Option Channel → List ℕ
channel_part None = []
channel_part (Some channel) = (codes "/" ++ decimal channel.port) ++ (codes "/" ++ decimal channel.connection)

-- Between them is the interface of the capture card, which each link has.
abbrev pub link_word : Link → List ℕ
link_word link = packet_part link.packet_interface ++ decimal link.interface ++ channel_part link.channel
