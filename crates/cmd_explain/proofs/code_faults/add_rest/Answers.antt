use Rattle.cmd_explain.proofs.code_faults.add_rest.Goals as goal

pub returns-in-Unwritten : goal.returns-in-Unwritten
returns-in-Unwritten c = rw c.in-Unwritten.is c.add_path.ensures
