-- A name that wasn't met before has its hints.
use Rattle.std.proofs.Common.{◌≡◌, ℕ, Bool, true, false, not, List, [], Option, OnOk, MatchBool, refl, ap, sym, ◌∙◌, subst}
use Rattle.text_io.specs.Devices.{Adds}
use Rattle.cmd_explain_rules.specs.HintComments.{AreHintsAbout}
use Rattle.cmd_setups.specs.FilesRead.{octets_of_name}
use Rattle.upc_lab.specs.SetupHints.{AreFileHints, file_front, is_known}
use Rattle.upc_lab.proofs.setup_hints.add_file_hints.Goals as goal

from_not : (b : Bool) → not b ≡ true → b ≡ false
from_not true e = absurd (let no : false ≡ true = e in cc)
from_not false e = refl

pub returns-clause-hinted : goal.returns-clause-hinted
returns-clause-hinted c before has =
    let name = c.in-Some.name.items in
    let text = c.args.text.now in
    let old = c.args.hints.now.items in
    let new = c.add_hints_after_name.new.hints.items in
    let ended = c.add_hints_after_name.result in
    let unknown : is_known before name ≡ false =
    from_not (is_known before name)
    (ap (λ (n : List ℕ). not (is_known before n)) (sym c.as_slice.ensures.value) ∙ ap not (sym (has c.as_slice.result.now))
    ∙ sym c.in_ok-meet.ensures.fresh ∙ c.if-not-branch.false) in
    let own : OnOk ended (Adds (AreHintsAbout (file_front name) text) old new) =
    subst (λ (n : List ℕ). OnOk ended (Adds (AreHintsAbout (file_front n) text) old new)) c.deref.ensures.value c.add_hints_after_name.ensures in
    let told : OnOk ended (Adds (λ hints. MatchBool (is_known before name) (hints ≡ []) (AreHintsAbout (file_front name) text hints)) old new) =
    subst (λ (b : Bool). OnOk ended (Adds (λ hints. MatchBool b (hints ≡ []) (AreHintsAbout (file_front name) text hints)) old new)) (sym unknown) own in
    subst (λ (file : Option (List ℕ)). OnOk ended (Adds (AreFileHints before file text) old new)) (sym (ap octets_of_name c.in-Some.is)) told
