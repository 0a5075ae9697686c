-- Words that name no setup have no files of rules.
use Rattle.std.proofs.Common.{◌≡◌, List, [], ℕ, Result, Ok, Err, IfOk, refl, sym, subst}
use Rattle.cmd_setups.specs.FilesRead.{AreTextsForFiles, files_read}
use Rattle.cmd_setups.specs.SharedTexts.{octets_of_texts}
use Rattle.cmd_setups.specs.declared.shared_text.SharedText.{SharedText}
use Rattle.upc_lab.specs.declared.named_files.NamedFiles.{NamedFiles}
use Rattle.upc_lab.specs.declared.named_files.Unreadable.{Unreadable}
use Rattle.upc_lab.proofs.named_files.read_named_files.Goals as goal

no_texts : (script : List ℕ) (rules : List SharedText) → script ≡ [] → rules ≡ [] → AreTextsForFiles (files_read script) (octets_of_texts rules)
no_texts script rules empty none =
    subst (λ (s : List ℕ). AreTextsForFiles (files_read s) (octets_of_texts rules)) (sym empty)
    (subst (λ (r : List SharedText). AreTextsForFiles (files_read []) (octets_of_texts r)) (sym none) refl)

no_texts_in : (result : Result NamedFiles Unreadable) → IfOk result (λ files. files.script.items ≡ []) → IfOk result (λ files. files.rules.items ≡ [])
    → IfOk result (λ files. AreTextsForFiles (files_read files.script.items) (octets_of_texts files.rules.items))
no_texts_in (Ok files) empty none = no_texts files.script.items files.rules.items empty none
no_texts_in (Err unreadable) empty none = tt

pub returns-in-Ok-Differ-clause-texts : goal.returns-in-Ok-Differ-clause-texts
returns-in-Ok-Differ-clause-texts g c = no_texts_in c.read_shown_other_text.result c.read_shown_other_text.ensures.script c.read_shown_other_text.ensures.rules

pub returns-in-Some-clause-texts : goal.returns-in-Some-clause-texts
returns-in-Some-clause-texts g c =
    no_texts_in c.read_shown_other_text-in-Some.result c.read_shown_other_text-in-Some.ensures.script c.read_shown_other_text-in-Some.ensures.rules

pub returns-in-None-clause-texts : goal.returns-in-None-clause-texts
returns-in-None-clause-texts g c = no_texts c.none.result.script.items c.none.result.rules.items c.none.ensures.script c.none.ensures.rules

pub returns-in-None-setup-clause-texts : goal.returns-in-None-setup-clause-texts
returns-in-None-setup-clause-texts g c =
    no_texts c.none-in-None-setup.result.script.items c.none-in-None-setup.result.rules.items c.none-in-None-setup.ensures.script c.none-in-None-setup.ensures.rules

pub returns-in_default-clause-texts : goal.returns-in_default-clause-texts
returns-in_default-clause-texts g c =
    no_texts c.none-in_default.result.script.items c.none-in_default.result.rules.items c.none-in_default.ensures.script c.none-in_default.ensures.rules
