use Rattle.bpf_verify.proofs.InOrder.{paths-from_walks, walks-from_paths}
use Rattle.bpf_verify.proofs.laws.written_on_paths_is_written_on_walks.Goals as goal

pub returns : goal.returns
returns c code = (walks-from_paths code, paths-from_walks code)
