-- Views of cards that differ only in which cells cuts have returned, and in the order of their connections.
use Rattle.std.proofs.Common.{◌≡◌, [], Option, Some, None, sym, ◌∙◌}
use Rattle.card_core.specs.declared.fault.DeskFault.{DeskFault}
use Rattle.cmd_run.proofs.alike.SameConnections.{Entries, HaveSame, same-back, same-joined}
use Rattle.cmd_run.proofs.one_script.HoldsAfter.{left}
use Rattle.cmd_run.proofs.one_script.Seen.{Seen}

-- The view without connections.
abbrev pub unconnected : Seen → Seen
unconnected s = record s { connections = [] }

-- All but the connections is equal, and the connections are the same.
pub record ViewsAlike (one other : Seen) : Type 0 where
  pub rest : unconnected one ≡ unconnected other
  pub connections : HaveSame one.connections other.connections

pub alike-back : (one other : Seen) → ViewsAlike one other → ViewsAlike other one
alike-back one other alike = record { rest = sym alike.rest; connections = same-back one.connections other.connections alike.connections }

pub alike-joined : (one middle other : Seen) → ViewsAlike one middle → ViewsAlike middle other → ViewsAlike one other
alike-joined one middle other first second = record {
  rest = first.rest ∙ second.rest;
  connections = same-joined one.connections middle.connections other.connections first.connections second.connections;
}

-- This view with those connections.
abbrev pub connected : Seen → Entries → Seen
connected s connections = record s { connections = connections }

-- So the other view is this one with other connections.
pub alike-as : (one other : Seen) → ViewsAlike one other → connected one other.connections ≡ other
alike-as one other alike = λ i. record (alike.rest i) { connections = other.connections }

-- The views after a step, or before it if there was a reason against it.
pub left-alike : (fault : Option DeskFault) (one other next next' : Seen) → ViewsAlike one other → ViewsAlike next next'
    → ViewsAlike (left fault one next) (left fault other next')
left-alike None one other next next' before after = after
left-alike (Some fault) one other next next' before after = before
