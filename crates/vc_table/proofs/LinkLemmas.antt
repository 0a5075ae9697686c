-- Links to blocks, after each change.
use Rattle.std.proofs.Common.{◌≡◌, ◌≢◌, ℕ, ◌+◌, ◌*◌, ◌<◌, List, [], ◌∷◌, ◌++◌, length, replicate, slice_index, slice_set, refl, sym, ap, subst, ◌∙◌, inl, inr, arith}
use Rattle.std.proofs.lemmas.Bool.{cases_eq, cases_lt}
use Rattle.std.proofs.lemmas.List.{length-set, length-append, length-replicate, get_or-set_same, get_or-set_other, get_or_past}
use Rattle.vc_table.specs.inner.Pool.{Pool, grown, MayGrow}
use Rattle.vc_table.specs.inner.Linked.{IsFreeBlock, IsLinked, HasSameBelow}
use Rattle.vc_table.proofs.PoolLemmas.{at-zeros, at-zero, at_within, at_zeros}

-- Block 0 alone, and links that lead nowhere.
pub IsLinked-new : (links : List ℕ) → ((place : ℕ) → slice_index links place ≡ 0)
    → IsLinked links (record { entries = replicate 64 0; next = 0 ∷ []; first = 0 })
IsLinked-new links nowhere = record {
  some = omega arith;
  few = omega arith;
  sized = refl;
  within = λ place. omega (arith, nowhere place);
  apart = λ one other same some. absurd (some (nowhere one));
  none = λ k below. at_zeros 64 k;
  blank = λ block k free below. absurd (omega (arith, free.some, free.within));
  head = λ some. absurd (some refl);
  chain = λ block free some. absurd (omega (arith, free.some, free.within));
  ahead = λ block free some. absurd (some refl);
  once = λ one other free1 free2 same some. absurd (omega (arith, free1.some, free1.within));
}

-- Links with the same numbers.
module _ (links new : List ℕ) (pool : Pool) (same : (place : ℕ) → slice_index new place ≡ slice_index links place) where
  free-same : (block : ℕ) → IsFreeBlock new pool.next block → IsFreeBlock links pool.next block
  free-same block free = record {
    some = free.some;
    within = free.within;
    alone = λ place e. free.alone place (same place ∙ e);
  }

  free-same_back : (block : ℕ) → IsFreeBlock links pool.next block → IsFreeBlock new pool.next block
  free-same_back block free = record {
    some = free.some;
    within = free.within;
    alone = λ place e. free.alone place (sym (same place) ∙ e);
  }

  pub IsLinked-same : IsLinked links pool → IsLinked new pool
  IsLinked-same is = record {
    some = is.some;
    few = is.few;
    sized = is.sized;
    within = λ place. omega (arith, same place, is.within place);
    apart = λ one other alike some.
        is.apart one other (sym (same one) ∙ alike ∙ same other) (λ e. some (same one ∙ e));
    none = is.none;
    blank = λ block k free below. is.blank block k (free-same block free) below;
    head = λ some. free-same_back pool.first (is.head some);
    chain = λ block free some. free-same_back (slice_index pool.next block) (is.chain block (free-same block free) some);
    ahead = λ block free some. is.ahead block (free-same block free) some;
    once = λ one other free1 free2 alike some.
        is.once one other (free-same one free1) (free-same other free2) alike some;
  }

module _ (links : List ℕ) (pool : Pool) (is : IsLinked links pool) where
  pub block-none : (k : ℕ) → k < 64 → slice_index pool.entries (64 * 0 + k) ≡ 0
  block-none k below =
      let e : 64 * 0 + k ≡ k = omega arith in
      ap (slice_index pool.entries) e ∙ is.none k below

  -- A write to a block to which a link leads.
  module _ (place k value : ℕ) (somewhere : slice_index links place ≢ 0) (below : k < 64) where
    abbrev Written : List ℕ
    Written = slice_set pool.entries (64 * slice_index links place + k) value

    elsewhere : (block j : ℕ) → block ≢ slice_index links place → j < 64
        → slice_index Written (64 * block + j) ≡ slice_index pool.entries (64 * block + j)
    elsewhere block j other within =
        get_or-set_other pool.entries (64 * slice_index links place + k) (64 * block + j) value 0
        (λ e. other (omega (arith, e)))

    pub IsLinked-written : IsLinked links (record { entries = Written; next = pool.next; first = pool.first })
    IsLinked-written = record {
      some = is.some;
      few = is.few;
      sized = length-set pool.entries (64 * slice_index links place + k) value ∙ is.sized;
      within = is.within;
      apart = is.apart;
      none = λ j within.
          let e : j ≡ 64 * 0 + j = omega arith in
          ap (slice_index Written) e ∙ elsewhere 0 j (λ e. somewhere (sym e)) within ∙ block-none j within;
      blank = λ block j free within.
          elsewhere block j (λ e. free.alone place (sym e)) within ∙ is.blank block j free within;
      head = is.head;
      chain = is.chain;
      ahead = is.ahead;
      once = is.once;
    }

  -- A new block.
  module _ (empty : pool.first ≡ 0) (room : length pool.next < 65536) where
    abbrev Longer : List ℕ
    Longer = pool.next ++ 0 ∷ []

    longer : length Longer ≡ length pool.next + 1
    longer = length-append pool.next (0 ∷ [])

    free-shorter : (block : ℕ) → IsFreeBlock links Longer block → slice_index pool.next block ≢ 0
        → IsFreeBlock links pool.next block
    free-shorter block free some = record {
      some = free.some;
      within = at_within pool.next block some;
      alone = free.alone;
    }

    free-longer : (block : ℕ) → IsFreeBlock links pool.next block → IsFreeBlock links Longer block
    free-longer block free = record {
      some = free.some;
      within = omega (arith, longer, free.within);
      alone = free.alone;
    }

    blank-before : (block k : ℕ) → IsFreeBlock links Longer block → k < 64
        → slice_index pool.entries (64 * block + k) ≡ 0
    blank-before block k free within = elim (cases_lt block (length pool.next)) [
      | inl before ↦ is.blank block k (record { some = free.some; within = before; alone = free.alone }) within
      | inr after ↦ get_or_past pool.entries (64 * block + k) 0 (omega (arith, after, is.sized))
    ]

    pub IsLinked-grown : IsLinked links (grown pool)
    IsLinked-grown = record {
      some = omega (arith, longer);
      few = omega (arith, longer, room);
      sized =
          let all = length-append pool.entries (replicate 64 0) in
          let new = length-replicate {A = ℕ} 64 0 in
          omega (arith, all, new, longer, is.sized);
      within = λ place. omega (arith, longer, is.within place);
      apart = is.apart;
      none = λ k within. at-zeros pool.entries 64 k ∙ is.none k within;
      blank = λ block k free within. at-zeros pool.entries 64 (64 * block + k)
          ∙ blank-before block k free within;
      head = λ some. record {
        some = is.some;
        within = omega (arith, longer);
        alone = λ place e. omega (arith, e, is.within place);
      };
      chain = λ block free some.
          let e = at-zero pool.next block in
          let was : slice_index pool.next block ≢ 0 = λ n. some (e ∙ n) in
          subst (IsFreeBlock links Longer) (sym e)
          (free-longer (slice_index pool.next block) (is.chain block (free-shorter block free was) was));
      ahead = λ block free some same.
          let e = at-zero pool.next block in
          let was : slice_index pool.next block ≢ 0 = λ n. some (sym same ∙ e ∙ n) in
          let next = is.chain block (free-shorter block free was) was in
          omega (arith, e, same, next.within);
      once = λ one other free1 free2 alike some.
          let e = at-zero pool.next one in
          let f = at-zero pool.next other in
          let was : slice_index pool.next one ≢ 0 = λ n. some (e ∙ n) in
          let alike_before : slice_index pool.next one ≡ slice_index pool.next other = sym e ∙ alike ∙ f in
          is.once one other (free-shorter one free1 was)
          (free-shorter other free2 (λ n. was (alike_before ∙ n))) alike_before was;
    }

  -- The first free block gets a link.
  module _ (place : ℕ) (there : place < length links) (nowhere : slice_index links place ≡ 0) (some : pool.first ≢ 0) where
    abbrev Linked : List ℕ
    Linked = slice_set links place pool.first

    abbrev Rest : Pool
    Rest = record { entries = pool.entries; next = pool.next; first = slice_index pool.next pool.first }

    here-linked : slice_index Linked place ≡ pool.first
    here-linked = get_or-set_same links place pool.first 0 there

    other-linked : (other : ℕ) → other ≢ place → slice_index Linked other ≡ slice_index links other
    other-linked other away = get_or-set_other links place other pool.first 0 away

    free-before : (block : ℕ) → IsFreeBlock Linked pool.next block → IsFreeBlock links pool.next block
    free-before block free = record {
      some = free.some;
      within = free.within;
      alone = λ other e. elim (cases_eq other place) [
        | inl same ↦ omega (arith, free.some, nowhere, e, ap (slice_index links) same)
        | inr away ↦ free.alone other (other-linked other away ∙ e)
      ];
    }

    free-other : (block : ℕ) → IsFreeBlock Linked pool.next block → block ≢ pool.first
    free-other block free e = free.alone place (here-linked ∙ sym e)

    free-after : (block : ℕ) → IsFreeBlock links pool.next block → block ≢ pool.first → IsFreeBlock Linked pool.next block
    free-after block free other_block = record {
      some = free.some;
      within = free.within;
      alone = λ other e. elim (cases_eq other place) [
        | inl same ↦ other_block (sym e ∙ ap (slice_index Linked) same ∙ here-linked)
        | inr away ↦ free.alone other (sym (other-linked other away) ∙ e)
      ];
    }

    pub IsLinked-linked : IsLinked Linked Rest
    IsLinked-linked = record {
      some = is.some;
      few = is.few;
      sized = is.sized;
      within = λ other. elim (cases_eq other place) [
        | inl same ↦
            let first = is.head some in
            let e : slice_index Linked other ≡ pool.first = ap (slice_index Linked) same ∙ here-linked in
            omega (arith, e, first.within)
        | inr away ↦ omega (arith, other-linked other away, is.within other)
      ];
      apart = λ one other alike used. elim (cases_eq one place) [
        | inl e ↦ elim (cases_eq other place) [
          | inl f ↦ e ∙ sym f
          | inr away ↦
              let one_is : slice_index Linked one ≡ pool.first = ap (slice_index Linked) e ∙ here-linked in
              absurd ((is.head some).alone other (sym (other-linked other away) ∙ sym alike ∙ one_is))
        ]
        | inr apart ↦ elim (cases_eq other place) [
          | inl f ↦
              let other_is : slice_index Linked other ≡ pool.first = ap (slice_index Linked) f ∙ here-linked in
              absurd ((is.head some).alone one (sym (other-linked one apart) ∙ alike ∙ other_is))
          | inr away ↦ is.apart one other (sym (other-linked one apart) ∙ alike ∙ other-linked other away)
              (λ n. used (other-linked one apart ∙ n))
        ]
      ];
      none = is.none;
      blank = λ block k free below. is.blank block k (free-before block free) below;
      head = λ more. free-after (slice_index pool.next pool.first) (is.chain pool.first (is.head some) more)
          (is.ahead pool.first (is.head some) some);
      chain = λ block free more. free-after (slice_index pool.next block) (is.chain block (free-before block free) more)
          (is.ahead block (free-before block free) some);
      ahead = λ block free more same. free-other block free
          (is.once block pool.first (free-before block free) (is.head some) same (λ n. more (sym same ∙ n)));
      once = λ one other free1 free2 alike more.
          is.once one other (free-before one free1) (free-before other free2) alike more;
    }

    pub same_below-linked : HasSameBelow links Linked pool.entries
    same_below-linked other k below = elim (cases_eq other place) [
      | inl same ↦
          let at : slice_index Linked other ≡ pool.first = ap (slice_index Linked) same ∙ here-linked in
          let was : slice_index links other ≡ 0 = ap (slice_index links) same ∙ nowhere in
          ap (λ (block : ℕ). slice_index pool.entries (64 * block + k)) at
          ∙ is.blank pool.first k (is.head some) below
          ∙ sym (ap (λ (block : ℕ). slice_index pool.entries (64 * block + k)) was ∙ block-none k below)
      | inr away ↦ ap (λ (block : ℕ). slice_index pool.entries (64 * block + k)) (other-linked other away)
    ]

  -- A block of zeros loses its link.
  module _ (place : ℕ) (there : place < length links) (somewhere : slice_index links place ≢ 0)
      (blank : (k : ℕ) → k < 64 → slice_index pool.entries (64 * slice_index links place + k) ≡ 0) where
    abbrev Unlinked : List ℕ
    Unlinked = slice_set links place 0

    abbrev Gone : ℕ
    Gone = slice_index links place

    abbrev Chained : List ℕ
    Chained = slice_set pool.next Gone pool.first

    abbrev Freed : Pool
    Freed = record { entries = pool.entries; next = Chained; first = Gone }

    length-chained : length Chained ≡ length pool.next
    length-chained = length-set pool.next Gone pool.first

    here-unlinked : slice_index Unlinked place ≡ 0
    here-unlinked = get_or-set_same links place 0 0 there

    other-unlinked : (other : ℕ) → other ≢ place → slice_index Unlinked other ≡ slice_index links other
    other-unlinked other away = get_or-set_other links place other 0 0 away

    next-gone : slice_index Chained Gone ≡ pool.first
    next-gone = get_or-set_same pool.next Gone pool.first 0 (is.within place)

    next-other : (block : ℕ) → block ≢ Gone → slice_index Chained block ≡ slice_index pool.next block
    next-other block other = get_or-set_other pool.next Gone block pool.first 0 other

    gone-free : IsFreeBlock Unlinked Chained Gone
    gone-free = record {
      some = omega (arith, somewhere);
      within = omega (arith, length-chained, is.within place);
      alone = λ other e. elim (cases_eq other place) [
        | inl same ↦ somewhere (sym e ∙ ap (slice_index Unlinked) same ∙ here-unlinked)
        | inr away ↦
            let at : slice_index links other ≡ slice_index links place = sym (other-unlinked other away) ∙ e in
            away (is.apart other place at (λ n. somewhere (sym at ∙ n)))
      ];
    }

    was-free : (block : ℕ) → IsFreeBlock Unlinked Chained block → block ≢ Gone → IsFreeBlock links pool.next block
    was-free block free other_block = record {
      some = free.some;
      within = omega (arith, length-chained, free.within);
      alone = λ other e. elim (cases_eq other place) [
        | inl same ↦ other_block (sym e ∙ ap (slice_index links) same)
        | inr away ↦ free.alone other (other-unlinked other away ∙ e)
      ];
    }

    stays-free : (block : ℕ) → IsFreeBlock links pool.next block → IsFreeBlock Unlinked Chained block
    stays-free block free = record {
      some = free.some;
      within = omega (arith, length-chained, free.within);
      alone = λ other e. elim (cases_eq other place) [
        | inl same ↦ omega (arith, free.some, e, here-unlinked, ap (slice_index Unlinked) same)
        | inr away ↦ free.alone other (sym (other-unlinked other away) ∙ e)
      ];
    }

    not-free : (block : ℕ) → IsFreeBlock links pool.next block → block ≢ Gone
    not-free block free e = free.alone place (sym e)

    first-other : pool.first ≢ Gone
    first-other e = not-free pool.first (is.head (λ n. somewhere (sym e ∙ n))) e

    -- No free block leads to the one that was linked.
    none-leads : (block : ℕ) → IsFreeBlock links pool.next block → slice_index pool.next block ≢ Gone
    none-leads block free e =
        not-free (slice_index pool.next block) (is.chain block free (λ n. somewhere (sym e ∙ n))) e

    pub IsLinked-unlinked : IsLinked Unlinked Freed
    IsLinked-unlinked = record {
      some = omega (arith, length-chained, is.some);
      few = omega (arith, length-chained, is.few);
      sized = omega (arith, length-chained, is.sized);
      within = λ other. elim (cases_eq other place) [
        | inl same ↦
            let e : slice_index Unlinked other ≡ 0 = ap (slice_index Unlinked) same ∙ here-unlinked in
            omega (arith, e, length-chained, is.some)
        | inr away ↦ omega (arith, other-unlinked other away, length-chained, is.within other)
      ];
      apart = λ one other alike used. elim (cases_eq one place) [
        | inl e ↦ absurd (used (ap (slice_index Unlinked) e ∙ here-unlinked))
        | inr apart ↦ elim (cases_eq other place) [
          | inl f ↦ absurd (used (alike ∙ ap (slice_index Unlinked) f ∙ here-unlinked))
          | inr away ↦ is.apart one other (sym (other-unlinked one apart) ∙ alike ∙ other-unlinked other away)
              (λ n. used (other-unlinked one apart ∙ n))
        ]
      ];
      none = is.none;
      blank = λ block k free below. elim (cases_eq block Gone) [
        | inl same ↦ ap (λ (b : ℕ). slice_index pool.entries (64 * b + k)) same ∙ blank k below
        | inr other ↦ is.blank block k (was-free block free other) below
      ];
      head = λ some. gone-free;
      chain = λ block free more. elim (cases_eq block Gone) [
        | inl same ↦
            let e : slice_index Chained block ≡ pool.first = ap (slice_index Chained) same ∙ next-gone in
            subst (IsFreeBlock Unlinked Chained) (sym e) (stays-free pool.first (is.head (λ n. more (e ∙ n))))
        | inr other ↦
            let e = next-other block other in
            subst (IsFreeBlock Unlinked Chained) (sym e)
            (stays-free (slice_index pool.next block)
            (is.chain block (was-free block free other) (λ n. more (e ∙ n))))
      ];
      ahead = λ block free some same. elim (cases_eq block Gone) [
        | inl e ↦ first-other (sym (ap (slice_index Chained) e ∙ next-gone) ∙ same)
        | inr other ↦ none-leads block (was-free block free other) (sym (next-other block other) ∙ same)
      ];
      once = λ one other free1 free2 alike more. elim (cases_eq one Gone) [
        | inl e ↦ elim (cases_eq other Gone) [
          | inl f ↦ e ∙ sym f
          | inr away ↦
              let first : slice_index Chained one ≡ pool.first = ap (slice_index Chained) e ∙ next-gone in
              absurd (is.ahead other (was-free other free2 away) (λ n. more (first ∙ n))
              (sym (next-other other away) ∙ sym alike ∙ first))
        ]
        | inr apart ↦ elim (cases_eq other Gone) [
          | inl f ↦
              let first : slice_index Chained other ≡ pool.first = ap (slice_index Chained) f ∙ next-gone in
              absurd (is.ahead one (was-free one free1 apart) (λ n. more (alike ∙ first ∙ n))
              (sym (next-other one apart) ∙ alike ∙ first))
          | inr away ↦
              is.once one other (was-free one free1 apart) (was-free other free2 away)
              (sym (next-other one apart) ∙ alike ∙ next-other other away)
              (λ n. more (next-other one apart ∙ n))
        ]
      ];
    }

    pub same_below-unlinked : HasSameBelow links Unlinked pool.entries
    same_below-unlinked other k below = elim (cases_eq other place) [
      | inl same ↦
          let at : slice_index Unlinked other ≡ 0 = ap (slice_index Unlinked) same ∙ here-unlinked in
          let was : slice_index links other ≡ Gone = ap (slice_index links) same in
          ap (λ (block : ℕ). slice_index pool.entries (64 * block + k)) at ∙ block-none k below
          ∙ sym (ap (λ (block : ℕ). slice_index pool.entries (64 * block + k)) was ∙ blank k below)
      | inr away ↦ ap (λ (block : ℕ). slice_index pool.entries (64 * block + k)) (other-unlinked other away)
    ]

-- A pool that may have got a new block.
pub at_grown : (old new : Pool) → MayGrow old new → (i : ℕ) → slice_index new.entries i ≡ slice_index old.entries i
at_grown old new (inl same) i = ap (λ (pool : Pool). slice_index pool.entries i) same
at_grown old new (inr grows) i = ap (λ (pool : Pool). slice_index pool.entries i) grows.2 ∙ at-zeros old.entries 64 i

pub IsLinked-may_grow : (links : List ℕ) (old new : Pool) → IsLinked links old → MayGrow old new → IsLinked links new
IsLinked-may_grow links old new is (inl same) = subst (IsLinked links) (sym same) is
IsLinked-may_grow links old new is (inr grows) =
    subst (IsLinked links) (sym grows.2) (IsLinked-grown links old is grows.0 grows.1)
