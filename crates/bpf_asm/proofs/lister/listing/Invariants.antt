use Rattle.std.proofs.Common.{◌≡◌, ◌++◌, drop}
use Rattle.bpf_asm.specs.Listing.{listing_from, listing_of}
use Rattle.bpf_code.specs.Widths.{FitsFields}
use Rattle.bpf_asm.proofs.listings.Places.{PlacesBelow}
use Rattle.bpf_asm.proofs.lister.listing.Given as goal

abbrev pub invariant-loop-at : goal.invariant-loop-at
invariant-loop-at l = record {
  written : l.text.items ++ listing_from l.at (drop l.at l.code) ≡ listing_of l.code;
  wide : PlacesBelow (λ place i. FitsFields i) l.code l.at;
}
