-- The script and the files of rules are those that were read.
use Rattle.std.proofs.Common.{inl}
use Rattle.upc_lab.proofs.setup_hints.setup_comments.Goals as goal

pub returns-in-Ok : goal.returns-in-Ok
returns-in-Ok c =
    let hints = c.in-Ok.ensures in
    let scripted = rw c.deref.ensures.value at hints in
    let here = rw c.deref-2.ensures.value at scripted in
    inl here
