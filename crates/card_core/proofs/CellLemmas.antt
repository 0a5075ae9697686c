-- Fields that tagging keeps, and the CLP of a cell on arrival from its verdict.
use Rattle.std.proofs.Common.{◌≡◌, ℕ, ◌/◌, ◌%◌, ◌^◌, false, List, [], ◌∷◌, Option, Some, None, refl, sym, ap, arith}
use Rattle.upc_cell.specs.declared.side.Side.{Side}
use Rattle.upc_cell.specs.declared.side.Side.TheVariants.{Uni, Nni, UniPaths, NniPaths}
use Rattle.upc_cell.specs.Connection.{vc_of}
use Rattle.upc_cell.specs.Header.{header_number, has_low_priority}
use Rattle.upc_cell.specs.Side.{vci_at, vpi_at}
use Rattle.upc_cell.specs.Tagged.{tagged_form}
use Rattle.upc_cell.proofs.Public.{vc_is}
use Rattle.leaky.specs.declared.contract.Contract.{Contract}
use Rattle.leaky.specs.Contract.{Buckets}
use Rattle.leaky.specs.declared.verdict.Verdict.{Verdict}
use Rattle.leaky.specs.declared.verdict.Verdict.TheVariants.{Pass, Tag, Discard, Refuse}
use Rattle.leaky.proofs.Public.{tagged_cells_came_untagged}
use Rattle.line_record.specs.History.{NamedCell, named_verdict}
use Rattle.card_core.specs.Steps.{cell_after}
use Rattle.card_core.specs.Headline.{came_with}

-- Tagging changes only the lowest bit of the header.
header-tagged : (cell : List ℕ) → header_number (tagged_form cell) / 2 ≡ header_number cell / 2
header-tagged [] = refl
header-tagged (a ∷ []) = refl
header-tagged (a ∷ b ∷ []) = refl
header-tagged (a ∷ b ∷ c ∷ []) = refl
header-tagged (a ∷ b ∷ c ∷ d ∷ rest) = omega arith

-- A field above the lowest bit is unchanged.
quotients : (one other : ℕ) → one / 2 ≡ other / 2 → (one / 2 ^ 4 ≡ other / 2 ^ 4) × (one / 2 ^ 20 ≡ other / 2 ^ 20)
quotients one other same = (omega (arith, same), omega (arith, same))

path-tagged : (side : Side) (cell : List ℕ) → vpi_at side (tagged_form cell) ≡ vpi_at side cell
path-tagged Uni cell =
    ap (λ n. n % 2 ^ 8) (quotients (header_number (tagged_form cell)) (header_number cell) (header-tagged cell)).1
path-tagged Nni cell =
    (quotients (header_number (tagged_form cell)) (header_number cell) (header-tagged cell)).1
path-tagged UniPaths cell =
    ap (λ n. n % 2 ^ 8) (quotients (header_number (tagged_form cell)) (header_number cell) (header-tagged cell)).1
path-tagged NniPaths cell =
    (quotients (header_number (tagged_form cell)) (header_number cell) (header-tagged cell)).1

channel-tagged : (side : Side) (cell : List ℕ) → vci_at side (tagged_form cell) ≡ vci_at side cell
channel-tagged Uni cell =
    ap (λ n. n % 2 ^ 16) (quotients (header_number (tagged_form cell)) (header_number cell) (header-tagged cell)).0
channel-tagged Nni cell =
    ap (λ n. n % 2 ^ 16) (quotients (header_number (tagged_form cell)) (header_number cell) (header-tagged cell)).0
channel-tagged UniPaths cell = refl
channel-tagged NniPaths cell = refl

vc-tagged : (side : Side) (cell : List ℕ) → vc_of side (tagged_form cell) ≡ vc_of side cell
vc-tagged side cell =
    vc_is (vc_of side (tagged_form cell)) (vc_of side cell)
    (ap (λ n. n % 4096) (path-tagged side cell)) (channel-tagged side cell)

-- A cell leaves with the connection of its arrival.
pub vc-after : (side : Side) (verdict : Verdict) (cell : List ℕ) → vc_of side (cell_after verdict cell) ≡ vc_of side cell
vc-after side Pass cell = refl
vc-after side Tag cell = vc-tagged side cell
vc-after side Discard cell = refl
vc-after side Refuse cell = refl

-- A tagged cell arrived with CLP 0.
untagged : (contract : Option Contract) (buckets : Buckets) (cell : NamedCell) → named_verdict contract buckets cell ≡ Tag
    → cell.clp ≡ false
untagged None buckets cell e = absurd (cc)
untagged (Some contract) buckets cell e = tagged_cells_came_untagged contract buckets cell.clp cell.moment e

-- The reply to a judged cell determines the CLP on arrival.
pub came : (cell : List ℕ) (contract : Option Contract) (buckets : Buckets) (named : NamedCell)
    → named.clp ≡ has_low_priority cell
    → came_with (named_verdict contract buckets named) (cell_after (named_verdict contract buckets named) cell) ≡ named.clp
came cell contract buckets named same =
    let choice : (verdict : Verdict) → named_verdict contract buckets named ≡ verdict
    → came_with verdict (cell_after verdict cell) ≡ named.clp = elim [
      | Pass ↦ λ e. sym same
      | Tag ↦ λ e. sym (untagged contract buckets named e)
      | Discard ↦ λ e. sym same
      | Refuse ↦ λ e. sym same
    ] in
    choice (named_verdict contract buckets named) refl
