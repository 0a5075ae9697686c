-- Octets spell one code.
use Rattle.std.proofs.Common.{◌≡◌, ℕ, List, Option, Some, option_map, ap, ◌∙◌, subst}
use Rattle.bpf_code.proofs.Public.{SpellsCode-unique}
use Rattle.bpf_code.specs.OctetSpelling.{SpellsCode}
use Rattle.text_words.specs.Hexadecimal.{octets_of_digits}
use Rattle.cmd_explain_script.specs.ContractNumbers.{names_none}
use Rattle.cmd_explain_script.specs.declared.contract_numbers.NamesNoContract.{NamesNoContract}
use Rattle.cmd_explain_script.proofs.loaded_programs.program_of_digits.Goals as goal

some_of : {A B : Type 0} (f : A → B) (found : Option A) (value : Option B) (x : A) → value ≡ option_map f found → found ≡ Some x → value ≡ Some (f x)
some_of f found value x e is = e ∙ ap (option_map f) is

pub returns-in-Ok : goal.returns-in-Ok
returns-in-Ok c octets code read spells =
    let found : octets_of_digits c.args.digits.now ≡ Some c.in-Some.octets.items = some_of _ _ _ c.in-Some.octets c.in_ok-octets.ensures c.in-Some.is in
    let same : c.in-Some.octets.items ≡ octets = cc in
    let spelled : SpellsCode octets c.in-Ok.code.items =
    subst (λ (xs : List ℕ). SpellsCode xs c.in-Ok.code.items) (c.deref.ensures.value ∙ same) c.in-Ok.ensures.code in
    let one = SpellsCode-unique octets c.in-Ok.code.items code spelled spells in
    ap (λ (program : NamesNoContract). Some program) (c.names_none.ensures ∙ ap names_none (c.deref-in-Ok.ensures.value ∙ one))
