-- The promise of a call that answers a whole input on an output.
use Rattle.std.specs.Prelude.{◌≡◌, ℕ, List, [], Result, Ok, IfOk, OnErr}
use Rattle.text_io.specs.Devices.{Adds, TakesEnough}
use Rattle.text_io.specs.Failures.{read_failures, write_failures}
use Rattle.text_io.specs.Limits.{most_ahead}
use Rattle.text_io.specs.Printing.{IsFront}
use Rattle.text_io.specs.declared.device.Input.{Ghosts as InputView}
use Rattle.text_io.specs.declared.device.Output.{Ghosts as OutputView}
use Rattle.text_io.specs.declared.ending.Done.{Done}
use Rattle.text_io.specs.declared.ending.Done.TheVariants.{Whole}
use Rattle.text_io.specs.declared.ending.RunFault.{RunFault}

-- The call answered the input by its text, or failed after a prefix of it. `IsText` relates the octets of an input to a
-- text for them and to how the run then ends. `I` and `O` are the ghost members of the devices' types. `source` and
-- `sink` are the devices before the call, `source'` and `sink'` after it.
pub record IsServed (IsText : List ℕ → List ℕ → Done → Type 0)
    {Source : Type 0} (I : InputView Source) (source source' : Source)
    {Sink : Type 0} (O : OutputView Sink) (sink sink' : Sink)
    (result : Result Done RunFault) : Type 0 where
  -- Ok: the output grew by a text of the whole input.
  pub text : I.is_known → O.is_known → IfOk result (λ done.
      Adds (λ text. IsText (I.rest source) text done) (O.held sink) (O.held sink'))
  -- Err: the output grew by a prefix of a text of the whole input.
  pub front : I.is_known → O.is_known → OnErr result (Adds (IsFront (IsText (I.rest source))) (O.held sink) (O.held sink'))
  -- Ok: the call read octets that have a text with the same end, and at most `most_ahead` octets after them.
  pub left : I.is_known → IfOk result (λ done.
      TakesEnough (λ octets. (text : List ℕ) × IsText octets text done) most_ahead (I.rest source) (I.rest source'))
  -- Ok(Whole): the whole input was read.
  pub whole : I.is_known → result ≡ Ok Whole → I.rest source' ≡ []
  -- The input's failure count grew by one if the result is `ReadFailed`, and is otherwise unchanged.
  pub reading : I.failures source' ≡ read_failures result (I.failures source)
  -- The output's failure count grew by one if the result is `WriteFailed`, and is otherwise unchanged.
  pub writing : O.failures sink' ≡ write_failures result (O.failures sink)
