-- Several cells that arrive at a card in one call.
use Rattle.std.specs.Prelude.{◌≡◌, ◌⊎◌, ◌<◌, ◌≤◌, ◌+◌, ◌*◌, ◌++◌, ℕ, suc, List, [], ◌∷◌, length, take, drop, Some, slice_get}
use Rattle.upc_c.specs.CardArrival.{IsArrivalFault, IsPolicedCell}
use Rattle.upc_c.specs.CardHandle.{card_in}
use Rattle.upc_c.specs.Faults.{no_room}
use Rattle.upc_c.specs.declared.arrival.UpcAnswer.{UpcAnswer}
use Rattle.upc_c.specs.declared.card.UpcCard.{UpcCard}
use Rattle.upc_c.specs.declared.fault.UpcFault.{UpcFault}

-- The cell with this number, from 0, in a buffer in which a cell begins every `stride` octets: its 52 octets, or those
-- up to the end of the buffer if they are fewer.
abbrev pub cell_in : List ℕ → ℕ → ℕ → List ℕ
cell_in octets stride number = take 52 (drop (number * stride) octets)

-- The buffer after this cell left: it has the octets of the leaving cell in place of those of the cell that came.
abbrev pub buffer_after : List ℕ → ℕ → ℕ → List ℕ → List ℕ
buffer_after octets stride number leaving =
    take (number * stride) octets ++ leaving ++ drop (number * stride + 52) octets

-- From this number on, a cell for each moment was judged with the next of the answers. The first of them came to this
-- card and was in this buffer; each later one came to the card and was in the buffer that the cell before it left.
abbrev pub PolicesEach : UpcCard → List ℕ → ℕ → ℕ → List ℕ → List UpcAnswer → UpcCard → List ℕ → Type 0
PolicesEach card octets stride number [] [] after left = (card_in after ≡ card_in card) × (left ≡ octets)
PolicesEach card octets stride number [] (answer ∷ answers) after left = ⊥
PolicesEach card octets stride number (moment ∷ moments) [] after left = ⊥
PolicesEach card octets stride number (moment ∷ moments) (answer ∷ answers) after left =
    (next : UpcCard) × (leaving : List ℕ) × IsPolicedCell card next (cell_in octets stride number) moment answer leaving
    × PolicesEach next (buffer_after octets stride number leaving) stride (suc number) moments answers after left

-- The first cells, `count` of them, were judged in order. Their answers are the first of the buffer of answers, and the
-- others are unchanged.
pub record ArePoliced (card after : UpcCard) (octets left : List ℕ) (stride : ℕ) (moments : List ℕ) (answers written : List UpcAnswer) (count : ℕ) : Type 0 where
  pub within : count ≤ length moments
  pub each : PolicesEach card octets stride 0 (take count moments) (take count written) after left
  pub sized : length written ≡ length answers
  pub rest : drop count written ≡ drop count answers

-- The cell with this number comes next. The card doesn't judge it, and this is the error of `upc_card_arrive` for it.
pub record IsNextRefused (card : UpcCard) (octets : List ℕ) (stride : ℕ) (moments : List ℕ) (number : ℕ) (fault : UpcFault) : Type 0 where
  pub moment : ℕ
  pub came : slice_get moments number ≡ Some moment
  pub refused : IsArrivalFault card card (cell_in octets stride number) moment fault

-- The error if not all cells were judged: there are fewer answers than moments, and no cell was judged; else that of the
-- cell after the judged ones, on the card and in the buffer that they left.
abbrev pub IsBatchFault : UpcCard → List ℕ → ℕ → List ℕ → List UpcAnswer → ℕ → UpcFault → Type 0
IsBatchFault card octets stride moments answers count fault =
    ((length answers < length moments) × (count ≡ 0) × (fault ≡ no_room (length moments)))
    ⊎ ((length moments ≤ length answers) × IsNextRefused card octets stride moments count fault)
