-- The programs that a script loaded, in the order of their names: the N-th is pN.
use Rattle.std.specs.Prelude.{List, [], ◌∷◌, ◌++◌, map, Some, None}
use Rattle.bpf_code.specs.declared.instr.Instr.{Instr}
use Rattle.card_core.specs.World.{Loading}
use Rattle.cmd_run.specs.RunText.{RunWorld}
use Rattle.cmd_explain_script.specs.ContractNumbers.{names_none}
use Rattle.cmd_explain_script.specs.declared.contract_numbers.NamesNoContract.{NamesNoContract}

-- The codes of these, the first one loaded first. A card lists what it loaded the latest first.
abbrev pub codes_in_order : List Loading → List (List Instr)
codes_in_order [] = []
codes_in_order (loading ∷ earlier) = codes_in_order earlier ++ loading.code ∷ []

-- The codes of the programs that a run loaded.
abbrev pub loaded_codes : RunWorld → List (List Instr)
loaded_codes None = []
loaded_codes (Some card) = codes_in_order card.world.loaded

-- Of each of them, for how many contracts of a connection it names none.
abbrev pub loaded_programs : RunWorld → List NamesNoContract
loaded_programs run = map names_none (loaded_codes run)
