-- The blocks and packets of a pcapng file that have no record for this reader, by kind, and the comments about them.
use Rattle.std.specs.Prelude.{◌==◌, if◌then◌else◌, ℕ, List, [], ◌++◌, codes, decimal}
use Rattle.captures.specs.declared.block.SkippedKind.{SkippedKind}
use Rattle.captures.specs.declared.block.SkippedKind.TheVariants.{NoPacket, Entry, SimplePacket, OldPacket, OtherBlock, OtherLinkPacket}
use Rattle.captures_text.specs.Tallies.{no_tally, one_more_record, skipped_count}
use Rattle.captures_text.specs.declared.blocks.BlockTallies.{BlockTallies}
use Rattle.captures_text.specs.declared.tally.CountAndFirst.{CountAndFirst}
use Rattle.text_words.specs.FaultLines.{line}

-- No block yet.
abbrev pub no_blocks : BlockTallies
no_blocks = record { simple = no_tally; obsolete = no_tally; other = no_tally; other_type = 0; other_link = no_tally }

-- One block more of this kind, which begins at this place. A block that has no packet by its type isn't counted. Of
-- blocks of unknown types the type of the first one is kept.
abbrev pub one_more_block : BlockTallies → SkippedKind → ℕ → BlockTallies
one_more_block blocks NoPacket at = blocks
one_more_block blocks Entry at = blocks
one_more_block blocks SimplePacket at = record blocks { simple = one_more_record blocks.simple at }
one_more_block blocks OldPacket at = record blocks { obsolete = one_more_record blocks.obsolete at }
one_more_block blocks (OtherBlock kind) at = record blocks {
  other = one_more_record blocks.other at;
  other_type = if blocks.other.count == 0 then kind else blocks.other_type;
}
one_more_block blocks OtherLinkPacket at = record blocks { other_link = one_more_record blocks.other_link at }

-- The end of a comment: the place of the first of them, in octets from 0.
abbrev pub first_place : CountAndFirst → List ℕ
first_place tally = line (codes "; first at octet " ++ decimal tally.first)

-- A comment about blocks or packets of one kind, if there are any.
abbrev pub block_line : CountAndFirst → List ℕ → List ℕ
block_line tally why = if tally.count == 0 then [] else skipped_count tally ++ why ++ first_place tally

-- What blocks of unknown types are.
abbrev pub unknown_blocks : ℕ → List ℕ
unknown_blocks kind = codes "blocks of unknown types, the first of type " ++ decimal kind

-- A comment for each kind.
abbrev pub block_lines : BlockTallies → List ℕ
block_lines blocks =
    block_line blocks.simple (codes "simple packets")
    ++ block_line blocks.obsolete (codes "obsolete packets")
    ++ block_line blocks.other_link (codes "packets of another link type")
    ++ block_line blocks.other (unknown_blocks blocks.other_type)
