use Rattle.bpf_verify.proofs.InOrder.{path_is_walk, walk_is_path}
use Rattle.bpf_verify.proofs.laws.paths_are_walks.Goals as goal

pub returns : goal.returns
returns c code passed place = (path_is_walk code passed place, walk_is_path code passed place)
