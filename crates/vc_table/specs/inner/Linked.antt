-- Links to blocks. A link is the number of a block. A link of 0 leads nowhere.
use Rattle.std.specs.Prelude.{◌≡◌, ◌≢◌, ℕ, ◌+◌, ◌*◌, ◌<◌, ◌≤◌, List, length, slice_index}
use Rattle.vc_table.specs.inner.Pool.{Pool}

-- No link leads to this block, which is not block 0.
pub record IsFreeBlock (links next : List ℕ) (block : ℕ) : Type 0 where
  pub some : 0 < block
  pub within : block < length next
  pub alone : (place : ℕ) → slice_index links place ≢ block

-- Each link is the number of a block, and no two links are the same except 0. Block 0 and the free blocks have only zeros.
-- In the list of free blocks all are free, and none occurs twice: the first is no other's next, and no two have the same
-- next block.
pub record IsLinked (links : List ℕ) (pool : Pool) : Type 0 where
  pub some : 0 < length pool.next
  pub few : length pool.next ≤ 65536
  pub sized : length pool.entries ≡ 64 * length pool.next
  pub within : (place : ℕ) → slice_index links place < length pool.next
  pub apart : (one other : ℕ) → slice_index links one ≡ slice_index links other → slice_index links one ≢ 0 → one ≡ other
  pub none : (k : ℕ) → k < 64 → slice_index pool.entries k ≡ 0
  pub blank : (block k : ℕ) → IsFreeBlock links pool.next block → k < 64 → slice_index pool.entries (64 * block + k) ≡ 0
  pub head : pool.first ≢ 0 → IsFreeBlock links pool.next pool.first
  pub chain : (block : ℕ) → IsFreeBlock links pool.next block → slice_index pool.next block ≢ 0
      → IsFreeBlock links pool.next (slice_index pool.next block)
  pub ahead : (block : ℕ) → IsFreeBlock links pool.next block → pool.first ≢ 0 → slice_index pool.next block ≢ pool.first
  pub once : (one other : ℕ) → IsFreeBlock links pool.next one → IsFreeBlock links pool.next other
      → slice_index pool.next one ≡ slice_index pool.next other → slice_index pool.next one ≢ 0 → one ≡ other

-- At each place, the new link leads to a block with the same numbers as the block to which the old link leads.
abbrev pub HasSameBelow : List ℕ → List ℕ → List ℕ → Type 0
HasSameBelow old new entries = (place k : ℕ) → k < 64
    → slice_index entries (64 * slice_index new place + k) ≡ slice_index entries (64 * slice_index old place + k)
