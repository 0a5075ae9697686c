-- What words with options ask for is what their values spell.
use Rattle.std.proofs.Common.{◌≡◌, ◌∙◌, refl, sym, subst, inl, inr, List, [], Option, Some, None, Ok, Err, Result}
use Rattle.std.specs.Result.{IsErrAnd}
use Rattle.clap.specs.Simple.{App}
use Rattle.clap.specs.Walk.{Text}
use Rattle.text_command_line.specs.CommandLines.{kinds_in}
use Rattle.text_command_line.specs.Stopping.{StopsAt}
use Rattle.text_command_line.specs.declared.stop.Stop.{Stop}
use Rattle.text_command_line.specs.declared.stop.Stop.TheVariants.{Help, Words, NoMemory}
use Rattle.cmd_options.specs.OptionAnswers.{AnswersWords, Asks, IsOptionStop}
use Rattle.cmd_options.specs.inner.Answered.{AnswersValues}

-- Words without a fault for clap are answered by what their values spell.
pub answers_values : {Asked Options : Type 0} (app : App) (spelled : List Text → Option Asked) (asked_by : Options → Asked) (words : List Text) (values : Option Asked) (answer : Result Options Stop)
    → kinds_in app words ≡ [] → values ≡ spelled words → AnswersValues asked_by values answer → AnswersWords app spelled asked_by words answer
answers_values app spelled asked_by words values (Ok options) none same h = record {
  asked = record { faultless = none; values = sym same ∙ h };
  stopped = tt;
  granted = λ _ _. tt;
}
answers_values app spelled asked_by words values (Err (Help text)) none same h = absurd h
answers_values app spelled asked_by words values (Err (Words text)) none same h = record {
  asked = tt;
  stopped = inr (sym same ∙ h);
  granted = λ asked it. let bad : None ≡ Some asked = sym (sym same ∙ h) ∙ it.values in cc;
}
answers_values app spelled asked_by words values (Err NoMemory) none same h = record { asked = tt; stopped = tt; granted = λ _ _. refl }

stopped_at : {Asked : Type 0} (app : App) (spelled : List Text → Option Asked) (words : List Text) (stop : Stop) → StopsAt (kinds_in app words) stop
    → IsOptionStop app spelled words stop
stopped_at app spelled words (Help text) h = h
stopped_at app spelled words (Words text) h = inl h
stopped_at app spelled words NoMemory h = tt

-- If clap finds no values, the answer is its own.
pub answers_stop : {Asked Options : Type 0} (app : App) (spelled : List Text → Option Asked) (asked_by : Options → Asked) (words : List Text) (stop : Stop)
    (answer : Result Options Stop) → StopsAt (kinds_in app words) stop → (kinds_in app words ≡ [] → stop ≡ NoMemory) → IsErrAnd answer (λ given. given ≡ stop)
    → AnswersWords app spelled asked_by words answer
answers_stop app spelled asked_by words stop (Ok options) stops taken is = absurd is
answers_stop app spelled asked_by words stop (Err given) stops taken is = record {
  asked = tt;
  stopped = subst (IsOptionStop app spelled words) (sym is) (stopped_at app spelled words stop stops);
  granted = λ asked it. is ∙ taken it.faultless;
}
