use Rattle.std.proofs.Common.{inl, refl}
use Rattle.rules_text.proofs.Public.{code_of_code_with_places}
use Rattle.cmd_programs.specs.Program.{is_program}
use Rattle.cmd_rules.specs.AsmLaws.{SourcesAreCheckedAlike}
use Rattle.cmd_rules.proofs.laws.sources_are_checked_alike.Goals as goal

checked_alike : SourcesAreCheckedAlike
checked_alike text answer made prints =
    let code = made.placed.code.items in
    record {
      checked = inl (code, prints.meaning, (is_program code, (prints.accepted, refl), (refl, refl)));
      compiled = inl (code, prints.accepted, prints.follows, code_of_code_with_places text made prints.places, refl, refl);
    }

pub returns : goal.returns
returns c = checked_alike
