use Rattle.std.proofs.Common.{◌<◌, Ok, Err, arith, refl, ◌∙◌, sym, ap}
use Rattle.captures.specs.inner.Lent.{format_after, framed_of, held_of}
use Rattle.captures.proofs.First.{takes_frame, head_some}
use Rattle.captures.proofs.reader.Reader.next.Goals as goal

pub returns-in-Err-framed : goal.returns-in-Err-framed
returns-in-Err-framed c =
    let some : 0 < c.in-Ok.size = omega (arith, c.in-Ok.ensures.least, head_some c.args.self.now.format) in
    takes_frame
    c.args.self.now
    _
    c.args.octets.now
    c.in-Ok.size
    (format_after c.args.self.now.format c.in-Ok-held_in.held.after)
    (Err c.in-Err-framed.what)
    _
    (omega arith)
    (sym c.size_of.ensures.size ∙ c.in-Ok.is)
    some
    (omega arith)
    (c.in-Ok-held_in.ensures.held
    ∙ ap (λ framed. Ok (format_after c.args.self.now.format c.in-Ok-held_in.held.after, held_of framed)) c.in-Err-framed.is)
    (omega arith)
    (cc)
    c.go_on.ensures
    c.count_past-self.ensures.count
    (omega arith)

pub returns-in-Ok-framed : goal.returns-in-Ok-framed
returns-in-Ok-framed c =
    let some : 0 < c.in-Ok.size = omega (arith, c.in-Ok.ensures.least, head_some c.args.self.now.format) in
    takes_frame
    c.args.self.now
    _
    c.args.octets.now
    c.in-Ok.size
    (format_after c.args.self.now.format c.in-Ok-held_in.held.after)
    (Ok (framed_of c.in-Ok-framed.framed))
    (Ok c.record_in.result)
    (omega arith)
    (sym c.size_of.ensures.size ∙ c.in-Ok.is)
    some
    (omega arith)
    (c.in-Ok-held_in.ensures.held
    ∙ ap (λ framed. Ok (format_after c.args.self.now.format c.in-Ok-held_in.held.after, held_of framed)) c.in-Ok-framed.is)
    (omega (arith, c.in-Some.ensures))
    c.record_in.ensures
    c.go_on.ensures
    refl
    (omega (arith, c.in-Some.ensures))
