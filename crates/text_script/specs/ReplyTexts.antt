-- The texts of answers that need no card: names of programs and connections, counts, and the lines of judged cells.
use Rattle.std.specs.Prelude.{ℕ, if◌then◌else◌, List, ◌++◌, length, map, take, codes, decimal}
use Rattle.hex.specs.Hex.{encode_lower}
use Rattle.upc_cell.specs.Side.{has_paths}
use Rattle.upc_cell.specs.declared.side.Side.{Side}
use Rattle.upc_cell.specs.declared.vc.Vc.{Vc}
use Rattle.leaky.specs.declared.verdict.Verdict.{Verdict}
use Rattle.leaky.specs.declared.verdict.Verdict.TheVariants.{Pass, Tag, Discard, Refuse}
use Rattle.line_record.specs.Piece.{PieceView}
use Rattle.line_record.specs.Tally.{tally_of}
use Rattle.line_record.specs.declared.tally.Tally.{Tally}
use Rattle.text_words.specs.FaultLines.{line}

-- The name of a program: `p` and its number.
abbrev pub program_name : ℕ → List ℕ
program_name number = codes "p" ++ decimal number

-- The channel in a connection's name: its number, or `*` where connections are virtual paths.
abbrev pub channel_name : Side → ℕ → List ℕ
channel_name side vci = if has_paths side then codes "*" else decimal vci

-- The name of a connection on a card of this side: its path and its channel.
abbrev pub connection_name : Side → Vc → List ℕ
connection_name side vc = decimal vc.vpi ++ codes "/" ++ channel_name side vc.vci

-- The counts of each verdict, each after a space.
abbrev pub tally_text : Tally → List ℕ
tally_text tally =
    codes " " ++ decimal tally.passed ++ codes " " ++ decimal tally.tagged
    ++ codes " " ++ decimal tally.discarded ++ codes " " ++ decimal tally.refused

-- The number of cells of a piece, and of those with each verdict.
abbrev pub piece_text : PieceView → List ℕ
piece_text piece =
    codes " " ++ decimal (length piece.entries) ++ tally_text (tally_of (map (λ entry. entry.verdict) piece.entries))

-- The connection of a judged cell, the program that named its contract, and the value that the program gave.
abbrev pub judging_text : Side → Vc → ℕ → ℕ → List ℕ
judging_text side vc number value = connection_name side vc ++ codes " " ++ program_name number ++ codes " " ++ decimal value

-- The header of a leaving cell, without its check octet, after a space.
abbrev pub header_text : List ℕ → List ℕ
header_text leaving = codes " " ++ encode_lower (take 4 leaving)

-- The line of a judged cell. Only a cell that leaves has a header.
abbrev pub verdict_text : Verdict → List ℕ → List ℕ → List ℕ
verdict_text Pass judging leaving = line (codes "pass " ++ judging ++ header_text leaving)
verdict_text Tag judging leaving = line (codes "tag " ++ judging ++ header_text leaving)
verdict_text Discard judging leaving = line (codes "discard " ++ judging)
verdict_text Refuse judging leaving = line (codes "refuse " ++ judging)
