use Rattle.captures.proofs.Stamps.{stamps_lose_no_tick}
use Rattle.captures.proofs.laws.stamps_lose_no_tick.Goals as goal

pub returns : goal.returns
returns c = stamps_lose_no_tick
