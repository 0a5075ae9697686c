-- From the octets searched in one step to the first line feed.
use Rattle.std.proofs.Common.{◌≡◌, ◌≢◌, ℕ, ◌+◌, ◌<◌, ◌≤◌, eqb, true, not, List, length, get_or, inl, inr}
use Rattle.std.proofs.lemmas.Bool.{cases_eq, eq-eqb, ne_eqb}
use Rattle.std.proofs.lemmas.Simd.{run_in_chunk_le, run_in_chunk_fails, run_in_chunk_stops}
use Rattle.std.specs.List.{prefix_len}
use lib.Lanes.{chunk}

eqb-same : (x y : ℕ) → eqb x y ≡ true → x ≡ y
eqb-same x y e = elim (cases_eq x y) [ inl same ↦ same | inr other ↦ let differs = ne_eqb x y other in cc ]

module _ (octets : List ℕ) (from near : ℕ) (room : from + 32 ≤ length octets)
    (counted : near ≡ prefix_len (λ x. not (eqb x 10)) (chunk from 32 octets)) where
  pub feed-within : near ≤ 32
  feed-within = run_in_chunk_le (λ x. eqb x 10) octets from 32 near 0 room counted

  -- The octet after those without a line feed is one.
  pub feed-found : near < 32 → get_or octets (from + near) 0 ≡ 10
  feed-found short = eqb-same _ 10 (run_in_chunk_stops (λ x. eqb x 10) octets from 32 near 0 room counted short)

  -- No earlier octet is one.
  pub feed-before : (k : ℕ) → from ≤ k → k < from + near → get_or octets k 0 ≢ 10
  feed-before k low high same =
      let passes = run_in_chunk_fails (λ x. eqb x 10) octets from 32 near 0 room counted k low high in
      let is = eq-eqb _ _ same in cc
