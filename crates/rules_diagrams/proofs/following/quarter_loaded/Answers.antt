use Rattle.std.proofs.Common.{Some, subst}
use Rattle.bpf_code.specs.declared.instr.Instr.TheVariants.{LdxMsh}
use Rattle.rules_diagrams.specs.inner.Following.{AreLoaded}
use Rattle.rules_diagrams.specs.declared.contents.Register.TheVariants.{X}
use Rattle.rules_diagrams.proofs.FollowSteps.{quarter_made}
use Rattle.rules_diagrams.proofs.Results.{if_mapped}
use Rattle.rules_diagrams.proofs.following.quarter_loaded.Goals as goal

pub returns-in_ok-bits-in-Some : goal.returns-in_ok-bits-in-Some
returns-in_ok-bits-in-Some c = c.from_bits.ensures X (LdxMsh c.args.k) c.args.contents.now (
    quarter_made c.args.k c.args.contents.now c.in-Some.octet.items c.deref.result.now c.in_ok-low-in-Some.low.items c.deref-in-Some.result.now c.in_ok-bits-in-Some.bits.items
    (subst (λ at. AreLoaded at 1 (Some c.in-Some.octet.items)) c.from.ensures (if_mapped c.in_ok-loaded.field-0 c.in-Some.octet (λ bits. bits.items) (AreLoaded c.from.result 1) c.in-Some.is c.in_ok-loaded.ensures)) c.deref.ensures.value c.in_ok-low-in-Some.ensures c.deref-in-Some.ensures.value c.in_ok-bits-in-Some.ensures)
