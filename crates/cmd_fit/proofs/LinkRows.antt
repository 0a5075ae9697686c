-- The map of links as rows.
use Rattle.std.proofs.Common.{◌≡◌, ◌==◌, ◌&&◌, ℕ, Bool, true, false, List, [], ◌∷◌, cond, Option, Some, None, refl, ap, ap₂, ◌∙◌}
use Rattle.std.specs.Map.{lookup}
use Rattle.std.specs.Option.{option_eq}
use Rattle.captures.specs.Links.{same_channel, same_link, same_packet_interface}
use Rattle.captures.specs.declared.link.Channel.{Channel}
use Rattle.captures.specs.declared.link.Link.{Link}
use Rattle.indexmap.specs.IndexMap.{insert_entry}
use Rattle.cmd_fit.specs.LinkTallies.{link_tally_of, with_row}
use Rattle.cmd_fit.specs.declared.link_tally.LinkTally.{LinkTally}

-- The `==` of links, field by field, as it is derived.
abbrev equal_channels : Channel → Channel → Bool
equal_channels one other = one.port == other.port && one.connection == other.connection

abbrev equal_links : Link → Link → Bool
equal_links one other =
    option_eq ◌==◌ one.packet_interface other.packet_interface && (one.interface == other.interface && option_eq equal_channels one.channel other.channel)

packets-equal : (one other : Option ℕ) → option_eq ◌==◌ one other ≡ same_packet_interface one other
packets-equal None None = refl
packets-equal None (Some other) = refl
packets-equal (Some one) None = refl
packets-equal (Some one) (Some other) = refl

channels-equal : (one other : Option Channel) → option_eq equal_channels one other ≡ same_channel one other
channels-equal None None = refl
channels-equal None (Some other) = refl
channels-equal (Some one) None = refl
channels-equal (Some one) (Some other) = refl

turned : (p i c : Bool) → p && (i && c) ≡ (i && p) && c
turned true true c = refl
turned true false c = refl
turned false true c = refl
turned false false c = refl

-- It is the test of the same link.
pub links-equal : (one other : Link) → equal_links one other ≡ same_link one other
links-equal one other =
    ap₂ (λ p c. p && (one.interface == other.interface && c)) (packets-equal one.packet_interface other.packet_interface) (channels-equal one.channel other.channel)
    ∙ turned (same_packet_interface one.packet_interface other.packet_interface) (one.interface == other.interface) (same_channel one.channel other.channel)

-- A row is put where the map puts it.
pub inserted : (rows : List (Link × LinkTally)) (link : Link) (tally : LinkTally) → insert_entry equal_links rows link tally ≡ with_row link tally rows
inserted [] link tally = refl
inserted (row ∷ rows) link tally =
    ap (λ b. cond b ((row.0, tally) ∷ rows) (row ∷ insert_entry equal_links rows link tally)) (links-equal link row.0)
    ∙ ap (λ xs. cond (same_link link row.0) ((row.0, tally) ∷ rows) (row ∷ xs)) (inserted rows link tally)

-- What the map has of a link is what its row says.
pub looked-up : (rows : List (Link × LinkTally)) (link : Link) → lookup (equal_links link) rows ≡ link_tally_of link rows
looked-up [] link = refl
looked-up (row ∷ rows) link =
    ap (λ b. cond b (Some row.1) (lookup (equal_links link) rows)) (links-equal link row.0)
    ∙ ap (λ found. cond (same_link link row.0) (Some row.1) found) (looked-up rows link)
