-- What is promised by a relation is promised by a wider one.
use Rattle.std.proofs.Common.{ℕ, List, Result}
use Rattle.std.proofs.lemmas.Result.{IfOk-weaker, on_err_weaker}
use Rattle.text_io.specs.Devices.{Adds}
use Rattle.text_io.specs.Printing.{IsFront}
use Rattle.text_io.specs.Serving.{IsServed}
use Rattle.text_io.specs.declared.device.Input.{Ghosts as InputView}
use Rattle.text_io.specs.declared.device.Output.{Ghosts as OutputView}
use Rattle.text_io.specs.declared.ending.Done.{Done}
use Rattle.text_io.specs.declared.ending.RunFault.{RunFault}

pub adds-wider : (One Other : List ℕ → Type 0) (before after : List ℕ) → ((text : List ℕ) → One text → Other text) → Adds One before after → Adds Other before after
adds-wider One Other before after wider added = (added.0, added.1, wider added.0 added.2)

pub front-wider : (One Other : List ℕ → Done → Type 0) (before after : List ℕ) → ((text : List ℕ) (done : Done) → One text done → Other text done)
    → Adds (IsFront One) before after → Adds (IsFront Other) before after
front-wider One Other before after wider added =
    let whole = added.2 in (added.0, added.1, (whole.0, whole.1, wider _ _ whole.2))

pub served-wider : (One Other : List ℕ → List ℕ → Done → Type 0) → ((octets text : List ℕ) (done : Done) → One octets text done → Other octets text done)
    → {Source : Type 0} (I : InputView Source) (source source' : Source) {Sink : Type 0} (O : OutputView Sink) (sink sink' : Sink) (result : Result Done RunFault)
    → IsServed One I source source' O sink sink' result → IsServed Other I source source' O sink sink' result
served-wider One Other wider I source source' O sink sink' result served = record {
  text = λ known written. IfOk-weaker result _ _
      (λ done. adds-wider (λ text. One (I.rest source) text done) (λ text. Other (I.rest source) text done) (O.held sink) (O.held sink')
      (λ text. wider (I.rest source) text done)) (served.text known written);
  front = λ known written. on_err_weaker result
      (front-wider (One (I.rest source)) (Other (I.rest source)) (O.held sink) (O.held sink') (wider (I.rest source))) (served.front known written);
  left = λ known. IfOk-weaker result _ _
      (λ done taken. (taken.0, taken.1, taken.2, taken.3, (taken.4.0, wider taken.0 taken.4.0 done taken.4.1))) (served.left known);
  whole = served.whole;
  reading = served.reading;
  writing = served.writing;
}
