-- The words that are tests. I.361 reserves a channel in every path, and I.610 has flows of a path (F4) and flows of a channel
-- (F5), so no word but `idle` says anything of the VPI.
use Rattle.std.specs.Prelude.{ℕ, [], ◌∷◌, None}
use Rattle.bpf_code.specs.declared.instr.Size.TheVariants.{Word}
use Rattle.rules_text.specs.RulesRead.{vci_field, pti_field, octets_field, TestRead, f5_cell, comparing, compared, listed, disjunction, two_tests}
use Rattle.rules_text.specs.declared.lexer.Sign.TheVariants.{Equal as equal_sign}

-- Cells of the channel with this VCI, in any path: 1 is for meta-signalling, 2 for broadcast signalling, 3 for the segment flow of a path
-- (F4), 4 for its flow from end to end, 5 for signalling from point to point. The ATM Forum has put local management into channel 16.
abbrev pub cell_of_channel : ℕ → TestRead
cell_of_channel vci = comparing vci_field None (compared equal_sign vci)

-- Cells with this PTI: 4 is for the segment flow of a channel (F5), 5 for its flow from end to end, 6 for resource management.
abbrev pub cell_of_type : ℕ → TestRead
cell_of_type pti = comparing pti_field None (compared equal_sign pti)

-- `oamf4`: OAM cells of a path, of either F4 flow.
abbrev pub f4_cell : TestRead
f4_cell = comparing vci_field None (listed (record { low = 3; high = 4 } ∷ []))

-- `oam`: OAM cells of a path or of a channel.
abbrev pub oam_cell : TestRead
oam_cell = disjunction (two_tests f4_cell f5_cell)

-- `idle`: idle cells, whose header is zeros and CLP 1.
abbrev pub idle_cell : TestRead
idle_cell = comparing (octets_field Word 0) None (compared equal_sign 1)
