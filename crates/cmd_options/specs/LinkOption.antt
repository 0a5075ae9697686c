-- The link that the value of `--link` spells, by the word that a fault names it by.
use Rattle.std.specs.Prelude.{◌≡◌, ◌≤◌, ◌<◌, ◌^◌, ⊤, ℕ, List, Option, Some, None, option_and_then, option_map}
use Rattle.captures.specs.declared.link.Channel.{Channel}
use Rattle.captures.specs.declared.link.Link.{Link}
use Rattle.clap.specs.Walk.{Text}
use Rattle.captures_text.specs.LinkWords.{link_word}
use Rattle.text_script.specs.ScriptWords.{cut_at, number_of_digits, number_up_to, with_both}

-- The channel of this port and this connection.
abbrev pub channel_with : ℕ → ℕ → Channel
channel_with port connection = record { port = port; connection = connection }

-- The link of a packet's interface, if the file has those, and a card's interface without a channel.
abbrev pub plain_link : Option ℕ → ℕ → Link
plain_link packet interface = record { packet_interface = packet; interface = interface; channel = None }

-- The link of a packet's interface, if the file has those, a card's interface and a channel.
abbrev pub channel_link : Option ℕ → ℕ → Channel → Link
channel_link packet interface channel = record { packet_interface = packet; interface = interface; channel = Some channel }

-- The channel of a word that a slash (47) cuts into the port, 0 to 15, and the connection, 0 to 2047.
abbrev pub channel_in_parts : Option (List ℕ × List ℕ) → Option Channel
channel_in_parts None = None
channel_in_parts (Some cut) = with_both channel_with (number_up_to 15 cut.0) (number_up_to 2047 cut.1)

-- The link of a word, which its first slash cuts so, if there is one: the interface of the card, 0 to 7, and then the channel.
abbrev pub link_in_parts : Option ℕ → List ℕ → Option (List ℕ × List ℕ) → Option Link
link_in_parts packet word None = option_map (plain_link packet) (number_up_to 7 word)
link_in_parts packet word (Some cut) = with_both (channel_link packet) (number_up_to 7 cut.0) (channel_in_parts (cut_at 47 cut.1))

-- The link of a word, which its first colon (58) cuts so, if there is one: the interface of the packet is before it.
abbrev pub link_in_halves : List ℕ → Option (List ℕ × List ℕ) → Option Link
link_in_halves word None = link_in_parts None word (cut_at 47 word)
link_in_halves word (Some cut) = option_and_then (λ interface. link_in_parts (Some interface) cut.1 (cut_at 47 cut.1)) (number_of_digits cut.0)

-- The link that a word spells.
abbrev pub link_in_word : List ℕ → Option Link
link_in_word word = link_in_halves word (cut_at 58 word)

-- The link that is asked for, or none.
abbrev pub link_of : Option Text → Option (Option Link)
link_of None = Some None
link_of (Some word) = option_map Some (link_in_word word)

-- The interface of a packet is a number of 64 bits, if there is one.
abbrev pub HasPacketWithin : Option ℕ → Type 0
HasPacketWithin None = ⊤
HasPacketWithin (Some interface) = interface < 2 ^ 64

-- The port and the connection are those that a multi-channel header can have, if there is one.
abbrev pub HasChannelWithin : Option Channel → Type 0
HasChannelWithin None = ⊤
HasChannelWithin (Some channel) = (channel.port ≤ 15) × (channel.connection ≤ 2047)

-- Each link that a record can have is spelled by its word.
abbrev pub LinksAreSpelled : Type 0
LinksAreSpelled = (link : Link) → HasPacketWithin link.packet_interface → link.interface ≤ 7 → HasChannelWithin link.channel
    → link_in_word (link_word link) ≡ Some link
