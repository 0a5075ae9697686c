-- By how much a cell came too early, from its connection after it.
use Rattle.std.specs.Prelude.{◌≡◌, ◌≤◌, ℕ, Bool, List, [], ◌∷◌, ◌++◌, Option, Some, option_and_then}
use Rattle.card_core.specs.World.{Connection, connection_in}
use Rattle.card_core.specs.declared.answer.Answer.{Answer}
use Rattle.card_core.specs.declared.answer.Answer.TheVariants as answer
use Rattle.leaky.specs.Bucket.{opening}
use Rattle.leaky.specs.Contract.{Buckets}
use Rattle.leaky.specs.Excess.{excess_at}
use Rattle.leaky.specs.declared.excess.Excess.{Excess}
use Rattle.leaky.specs.declared.verdict.Verdict.{Verdict}
use Rattle.leaky.specs.declared.verdict.Verdict.TheVariants.{Pass, Tag, Discard, Refuse}
use Rattle.line_record.specs.History.{NamedCell, buckets_after_cells, empty_buckets, last_moment, numbered, verdict_after}
use Rattle.line_record.specs.Line.{LineView}
use Rattle.line_record.specs.StateAfter.{IsStateAfter}
use Rattle.upc_cell.specs.declared.vc.Vc.{Vc}

-- The buckets after a cell with this verdict, as far as its excess depends on them: a tagged cell conformed to bucket 1, and filled it.
abbrev pub buckets_to_explain : Verdict → Buckets → Buckets
buckets_to_explain Pass buckets = buckets
buckets_to_explain Tag buckets = record { first = opening; second = buckets.second }
buckets_to_explain Discard buckets = buckets
buckets_to_explain Refuse buckets = buckets

-- The same of the arrival time of bucket 1: that of an empty bucket is 0.
abbrev pub first_met : Verdict → ℕ → ℕ
first_met Pass first = first
first_met Tag first = 0
first_met Discard first = first
first_met Refuse first = first

-- The line has the contracts of a connection, and a state after its history.
pub record IsKeptOnLine (connection : Connection) (line : LineView) : Type 0 where
  pub contracts : line.contracts ≡ connection.contracts
  pub state : IsStateAfter connection.contracts connection.history line.state

-- The excess of the last cell of a connection, which had this verdict and did not pass.
abbrev pub excess_left : Connection → ℕ → Verdict → Bool → ℕ → Option Excess
excess_left connection value verdict clp moment =
    option_and_then (λ contract. excess_at contract (buckets_to_explain verdict (buckets_after_cells connection.contracts empty_buckets connection.history value)) clp moment)
    (numbered connection.contracts value)

-- From the one list of connections to the other, the connection came to have one more cell, with this verdict.
pub record JudgesNext (before after : List (Vc × Connection)) (vc : Vc) (clp : Bool) (moment value : ℕ) (verdict : Verdict) : Type 0 where
  pub connection : Connection
  pub found : connection_in before vc ≡ Some connection
  pub next : Connection
  pub left : connection_in after vc ≡ Some next
  pub cell : NamedCell
  pub at : cell.moment ≡ moment
  pub valued : cell.value ≡ value
  pub priority : cell.clp ≡ clp
  pub contracts : next.contracts ≡ connection.contracts
  pub history : next.history ≡ connection.history ++ cell ∷ []
  pub judged : verdict ≡ verdict_after connection.contracts empty_buckets connection.history cell
  pub forward : last_moment 0 connection.history ≤ moment

-- The same for an answer. One without a verdict says nothing here.
abbrev pub LeavesConnection : List (Vc × Connection) → List (Vc × Connection) → Vc → Bool → Answer → Type 0
LeavesConnection before after vc clp (answer.Judged line number moment value program verdict leaving) = JudgesNext before after vc clp moment value verdict
LeavesConnection before after vc clp _ = Unit {0}
