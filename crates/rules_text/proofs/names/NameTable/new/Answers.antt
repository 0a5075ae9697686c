use Rattle.std.proofs.Common.{refl}
use Rattle.rules_text.proofs.NameTables.{found_first}
use Rattle.rules_text.proofs.names.NameTable.new.Goals as goal

pub returns-clause-found : goal.returns-clause-found
returns-clause-found c = found_first _ c.new.ensures.items c.new-2.ensures.empty refl
