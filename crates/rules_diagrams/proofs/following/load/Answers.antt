use Rattle.bpf_interp.specs.Packet.{octets_loaded}
use Rattle.rules_diagrams.specs.inner.Following.{AreLoaded}
use Rattle.rules_diagrams.specs.declared.contents.Register.TheVariants.{A}
use Rattle.rules_diagrams.proofs.FollowSteps.{loads_made}
use Rattle.rules_diagrams.proofs.Results.{if_mapped}
use Rattle.rules_diagrams.proofs.following.load.Goals as goal

pub returns-in-Some : goal.returns-in-Some
returns-in-Some c = c.from_bits.ensures A c.args.instr.now c.args.contents.now (
    loads_made c.args.instr.now c.args.at (octets_loaded c.args.size) c.args.contents.now c.in-Some.bits.items c.requires
    (if_mapped c.in_ok-loaded.field-0 c.in-Some.bits (λ bits. bits.items) (AreLoaded c.args.at (octets_loaded c.args.size)) c.in-Some.is c.in_ok-loaded.ensures))
