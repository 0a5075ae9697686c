-- Cells that are judged on the core of a card, while it is taken out.
use Rattle.std.specs.Prelude.{◌≡◌, ℕ, List, length, Some, slice_get}
use Rattle.card_core.specs.Agreement.{CoreView}
use Rattle.upc_c.specs.CardArrival.{IsArrivalFault, IsPolicedCell}
use Rattle.upc_c.specs.CardBatch.{ArePoliced, buffer_after, cell_in}
use Rattle.upc_c.specs.CardHandle.{card_in}
use Rattle.upc_c.specs.declared.arrival.UpcAnswer.{UpcAnswer}
use Rattle.upc_c.specs.declared.card.UpcCard.{UpcCard}
use Rattle.upc_c.specs.declared.fault.UpcFault.{UpcFault}

-- Cards with these cores before and after the cell, which has 52 octets, have judged it.
pub record PolicesOn (old new : CoreView) (cell : List ℕ) (moment : ℕ) (answer : UpcAnswer) (leaving : List ℕ) : Type 0 where
  pub sized : length cell ≡ 52
  pub on : (before after : UpcCard) → card_in before ≡ Some old → card_in after ≡ Some new
      → IsPolicedCell before after cell moment answer leaving

-- Cards with this core before and after the cell have refused it with this error.
pub record RefusesOn (core : CoreView) (cell : List ℕ) (moment : ℕ) (fault : UpcFault) : Type 0 where
  pub on : (before after : UpcCard) → card_in before ≡ Some core → card_in after ≡ Some core
      → IsArrivalFault before after cell moment fault

-- The cell with this number in a buffer was judged, and the leaving cell is in its place.
pub record PolicesNumber (old new : CoreView) (octets left : List ℕ) (stride number moment : ℕ) (answer : UpcAnswer) : Type 0 where
  pub leaving : List ℕ
  pub polices : PolicesOn old new (cell_in octets stride number) moment answer leaving
  pub written : left ≡ buffer_after octets stride number leaving

-- Cards with these cores have judged the first cells of a buffer.
pub record PolicesFirst (old new : CoreView) (octets left : List ℕ) (stride : ℕ) (moments : List ℕ) (answers written : List UpcAnswer) (count : ℕ) : Type 0 where
  pub on : (before after : UpcCard) → card_in before ≡ Some old → card_in after ≡ Some new
      → ArePoliced before after octets left stride moments answers written count

-- A card with this core refuses the next cell of a buffer.
pub record RefusesNext (core : CoreView) (octets : List ℕ) (stride : ℕ) (moments : List ℕ) (number : ℕ) (fault : UpcFault) : Type 0 where
  pub moment : ℕ
  pub came : slice_get moments number ≡ Some moment
  pub refused : RefusesOn core (cell_in octets stride number) moment fault
