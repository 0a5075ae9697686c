use Rattle.std.proofs.Common.{length}
use Rattle.bpf_asm.specs.Listing.{StaysWithin}
use Rattle.bpf_asm.proofs.listings.Places.{PlacesBelow}
use Rattle.bpf_asm.proofs.lister.first_leaving.Given as goal

abbrev pub invariant-loop-at : goal.invariant-loop-at
invariant-loop-at l = PlacesBelow (StaysWithin (length l.code)) l.code l.at
