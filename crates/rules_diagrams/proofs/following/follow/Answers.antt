use Rattle.std.proofs.Common.{◌+◌, ◌∷◌, sym, ap, subst}
use Rattle.bpf_code.specs.declared.instr.Instr.{Instr}
use Rattle.bpf_interp.specs.State.{At}
use Rattle.bpf_interp.specs.Step.{Does}
use Rattle.rules_diagrams.specs.CellNumbers.{octets_number}
use Rattle.rules_diagrams.specs.inner.Following.{OnEach}
use Rattle.rules_diagrams.specs.inner.Words.{word_number}
use Rattle.rules_diagrams.proofs.following.follow.Goals as goal

pub returns-in_ok-made-in-LdxImm : goal.returns-in_ok-made-in-LdxImm
returns-in_ok-made-in-LdxImm c = c.with.ensures c.args.instr.now c.in_ok-made-in-LdxImm.ensures

pub returns-in_ok-made-in_default : goal.returns-in_ok-made-in_default
returns-in_ok-made-in_default c = c.with-in_default.ensures c.args.instr.now c.in_ok-made-in_default.ensures

pub returns-in-Store : goal.returns-in-Store
returns-in-Store c =
    let contents = c.args.contents.now in
    let next = c.args.place + 1 in
    c.stored.ensures c.args.instr.now (λ lt.
    subst (λ (i : Instr). OnEach contents (λ cell a x m. Does cell i c.args.place a x m (At next a x ((c.in-Store.k, word_number contents.a (octets_number cell)) ∷ m)))) (sym c.in-Store.is)
    (λ cell there a x m are. (lt, ap (λ n. At next a x ((c.in-Store.k, n) ∷ m)) are.a_is)))

pub returns-in-StoreX : goal.returns-in-StoreX
returns-in-StoreX c =
    let contents = c.args.contents.now in
    let next = c.args.place + 1 in
    c.stored-in-StoreX.ensures c.args.instr.now (λ lt.
    subst (λ (i : Instr). OnEach contents (λ cell a x m. Does cell i c.args.place a x m (At next a x ((c.in-StoreX.k, word_number contents.x (octets_number cell)) ∷ m)))) (sym c.in-StoreX.is)
    (λ cell there a x m are. (lt, ap (λ n. At next a x ((c.in-StoreX.k, n) ∷ m)) are.x_is)))
