-- The code of the last lines, as the generator keeps it.
use Rattle.rules_code.specs.LineCode.{Coded}
use Rattle.rules_code.specs.declared.lines.Coding.{Coding}

-- The code, its entry and the labels after ends.
abbrev pub coded_of : Coding → Coded
coded_of coding = record { code = coding.draft; entry = coding.entry; after = coding.after.items }
