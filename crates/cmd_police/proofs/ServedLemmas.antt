-- What a call has served that failed for want of memory before it read, or that wrote an explanation of faults.
use Rattle.std.proofs.Common.{◌≡◌, ◌≢◌, List, ℕ, [], ◌++◌, Result, Err, IfOk, OnErr, OnOk, refl}
use Rattle.captures_text.proofs.CaptureTexts.{a_front, all_needed, not_read}
use Rattle.captures_text.proofs.Progresses.{if_done, if_given, on_fault}
use Rattle.text_io.proofs.Public.{at-result, nothing-begins}
use Rattle.text_io.specs.Devices.{IsPart}
use Rattle.text_io.specs.Failures.{write_failures}
use Rattle.text_io.specs.Serving.{IsServed}
use Rattle.text_io.specs.declared.device.Input.{Ghosts as InputView}
use Rattle.text_io.specs.declared.device.Output.{Ghosts as OutputView}
use Rattle.text_io.specs.declared.ending.Done.{Done}
use Rattle.text_io.specs.declared.ending.Done.TheVariants.{Ended, Whole}
use Rattle.text_io.specs.declared.ending.RunFault.{RunFault}
use Rattle.text_io.specs.declared.ending.RunFault.TheVariants.{NoMemory, ReadFailed}

-- Nothing was read or written.
pub nothing_served : {Source Sink : Type 0} (I : InputView Source) (O : OutputView Sink) (source : Source) (sink : Sink) (IsText : List ℕ → List ℕ → Done → Type 0)
    → ((text : List ℕ) × (done : Done) × IsText (I.rest source) text done) → IsServed IsText I source source O sink sink (Err NoMemory)
nothing_served I O source sink IsText some = record {
  text = λ ki ko. tt;
  front = λ ki ko. nothing-begins (IsText (I.rest source)) (O.held sink) some;
  left = λ ki. tt;
  whole = λ ki same. cc;
  reading = refl;
  writing = refl;
}

-- An explanation was written, which is the text whatever the input is.
pub faults_written : {Source Sink : Type 0} (I : InputView Source) (O : OutputView Sink) (source : Source) (sink sink' : Sink) (result : Result Done RunFault)
    (IsText : List ℕ → List ℕ → Done → Type 0) (text : List ℕ) → ((octets : List ℕ) → IsText octets text Ended)
    → IfOk result (λ done. done ≡ Ended) → (O.is_known → OnOk result (O.held sink' ≡ O.held sink ++ text))
    → (O.is_known → OnErr result (IsPart (O.held sink) (O.held sink') text)) → result ≢ Err ReadFailed
    → O.failures sink' ≡ write_failures result (O.failures sink) → IsServed IsText I source source O sink sink' result
faults_written I O source sink sink' result IsText text printed ended given part read_well writing =
    let all = I.rest source in record {
      text = λ ki ko. if_given result Ended _ _ ended (given ko) (λ gives. (text, gives, printed all));
      front = λ ki ko. on_fault result _ _ (part ko) (λ part. a_front (IsText all) (O.held sink) (O.held sink') text Ended (printed all) part);
      left = λ ki. if_done result Ended _ ended (all_needed IsText all [] all text Ended refl (printed []));
      whole = λ ki same. let bad : Whole ≡ Ended = at-result result (λ done. done ≡ Ended) Whole same ended in cc;
      reading = not_read result _ _ read_well refl;
      writing = writing;
    }
