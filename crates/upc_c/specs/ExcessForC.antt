-- By how much a cell comes too early, as C gets it.
use Rattle.std.specs.Prelude.{◌≡◌, ℕ, Bool, Option, Some, None}
use Rattle.leaky.specs.Contract.{Buckets}
use Rattle.leaky.specs.Excess.{bucket_number, excess_at}
use Rattle.leaky.specs.KeptState.{IsChargedBy}
use Rattle.leaky.specs.declared.contract.Contract.{Contract}
use Rattle.leaky.specs.declared.excess.Excess.{Excess}
use Rattle.upc_c.specs.Judging.{Shows}
use Rattle.upc_c.specs.declared.excess.UpcExcess.{UpcExcess}
use Rattle.upc_c.specs.declared.meter.UpcLevels.{UpcLevels}

-- The number of the bucket and the ticks, or zeros if there is no excess.
abbrev pub excess_for_c : Option Excess → UpcExcess
excess_for_c None = record { bucket = 0; ticks = 0 }
excess_for_c (Some excess) = record { bucket = bucket_number excess.bucket; ticks = excess.ticks }

-- For any buckets that have these levels and weren't charged after this moment, this is the excess of the cell.
abbrev pub IsExcessForC : Contract → UpcLevels → Bool → ℕ → UpcExcess → Type 0
IsExcessForC contract levels clp moment excess = (buckets : Buckets) → Shows levels buckets → IsChargedBy buckets moment
    → excess ≡ excess_for_c (excess_at contract buckets clp moment)
