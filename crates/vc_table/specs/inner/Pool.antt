-- The blocks of one level as lists.
use Rattle.std.specs.Prelude.{◌≡◌, ◌⊎◌, ◌<◌, ℕ, List, [], ◌∷◌, ◌++◌, length, replicate, slice_index}
use Rattle.vc_table.specs.declared.blocks.Blocks.{Blocks}

-- The numbers of all blocks, for each free block the next free one, and the first free one.
pub record Pool : Type 0 where
  pub entries : List ℕ
  pub next : List ℕ
  pub first : ℕ

-- The lists of these blocks.
abbrev pub pool_of : Blocks → Pool
pool_of blocks = record { entries = blocks.entries.items; next = blocks.next.items; first = blocks.first }

-- The pool with a new block at its end, which is the first free one.
abbrev pub grown : Pool → Pool
grown pool = record { entries = pool.entries ++ replicate 64 0; next = pool.next ++ 0 ∷ []; first = length pool.next }

-- The new pool is the old one; or, if no block was free in the old one, the old one with a new block.
abbrev pub MayGrow : Pool → Pool → Type 0
MayGrow old new = (new ≡ old) ⊎ ((old.first ≡ 0) × (length old.next < 65536) × (new ≡ grown old))

-- There are this many numbers, which are zeros.
pub record IsZeros (count : ℕ) (numbers : List ℕ) : Type 0 where
  pub counted : length numbers ≡ count
  pub zeros : (place : ℕ) → slice_index numbers place ≡ 0
