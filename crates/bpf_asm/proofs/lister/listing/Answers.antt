use Rattle.std.proofs.Common.{arith}
use Rattle.bpf_asm.specs.Listing.{listing_of}
use Rattle.bpf_code.specs.Widths.{FitsFields}
use Rattle.bpf_asm.proofs.listings.ListingSteps.{written_more, written_all}
use Rattle.bpf_asm.proofs.listings.Places.{places_all, places_more}
use Rattle.bpf_asm.proofs.listings.RoundTrip.{listing_means}
use Rattle.bpf_asm.proofs.listings.Rows.{ok_mapped}
use Rattle.bpf_asm.proofs.lister.listing.Goals as goal

pub loop-at-preserved : goal.loop-at-preserved
loop-at-preserved c =
    let text = c.put_line.new.text.items in
    let written = ok_mapped c.put_line.result c.map_err.result _ _ c.in_ok-map_err.was c.map_err.ensures.variant c.put_line.ensures.written in
    let wide = ok_mapped c.put_line.result c.map_err.result _ _ c.in_ok-map_err.was c.map_err.ensures.variant c.put_line.ensures.wide in
    record {
      written = rw written (written_more c.loop-at.text.items (listing_of c.args.code.now) c.args.code.now c.loop-at.at _ (omega arith) c.loop-at.invariant.written);
      wide = places_more (λ place i. FitsFields i) c.args.code.now c.loop-at.at _ c.loop-at.invariant.wide wide;
    }

pub returns-clause-text : goal.returns-clause-text
returns-clause-text c = written_all c.loop-at.text.items (listing_of c.args.code.now) c.args.code.now c.loop-at.at (omega arith) c.loop-at.invariant.written

pub returns-clause-meaning : goal.returns-clause-meaning
returns-clause-meaning c =
    let code = c.args.code.now in
    let text = written_all c.loop-at.text.items (listing_of code) code c.loop-at.at (omega arith) c.loop-at.invariant.written in
    let wide = places_all (λ place i. FitsFields i) code c.loop-at.at (omega arith) c.loop-at.invariant.wide in
    let means = listing_means code (omega arith) wide c.in_default.ensures.none in
    rw text means
