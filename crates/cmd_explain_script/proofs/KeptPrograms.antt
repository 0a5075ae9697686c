-- What is kept of programs follows their codes.
use Rattle.std.proofs.Common.{◌≡◌, ℕ, List, [], ◌∷◌, ◌++◌, Option, Some, None, map, ap, sym, ◌∙◌, refl}
use Rattle.bpf_code.specs.declared.instr.Instr.{Instr}
use Rattle.cmd_explain_script.specs.ContractNumbers.{names_none}
use Rattle.cmd_explain_script.specs.declared.contract_numbers.NamesNoContract.{NamesNoContract}
use Rattle.cmd_explain_script.specs.inner.ProgramsKept.{CodesAfter, ProgramsAfter}

map_last : (all : List (List Instr)) (code : List Instr) → map names_none (all ++ code ∷ []) ≡ map names_none all ++ names_none code ∷ []
map_last [] code = refl
map_last (first ∷ all) code = ap (λ (xs : List NamesNoContract). names_none first ∷ xs) (map_last all code)

pub kept_after : (found : Option (List ℕ)) (before after : List (List Instr)) (old new : List NamesNoContract) → old ≡ map names_none before
    → CodesAfter found before after → ProgramsAfter found old new → new ≡ map names_none after
kept_after None before after old new kept same stays = stays ∙ kept ∙ ap (map names_none) (sym same)
kept_after (Some digits) before after old new kept (octets, code, read, spells, grew) adds =
    adds octets code read spells ∙ ap (λ (xs : List NamesNoContract). xs ++ names_none code ∷ []) kept ∙ sym (map_last before code) ∙ ap (map names_none) (sym grew)
