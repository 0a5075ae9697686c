-- What the words of `upc` name.
use Rattle.std.proofs.Common.{◌≡◌, ◌∙◌, ⊎_elim, ap, codes, refl, subst, sym, true, inl, inr, List, [], ◌∷◌, Option, Some, None, IfErr, IfOk, Ok, Err, Result}
use Rattle.std.specs.Prelude.{unwrap_or}
use Rattle.clap.specs.Walk.{Text}
use Rattle.clap.proofs.OnLiterals.{clap_on_literals}
use Rattle.text_command_line.specs.Choice.{IsChoiceOf, IsChosen, NamesSubcommand, faults_in, subcommands, upc_app}
use Rattle.text_command_line.specs.CommandLines.{kinds_in, subcommand_in}
use Rattle.text_command_line.specs.PlainCommands.{is_plain_command}
use Rattle.text_command_line.specs.Stopping.{StopsAt}
use Rattle.text_command_line.specs.Subcommands.{IsEnd, IsRowIn, NamesIn, NamesRow, app_with, with_name}
use Rattle.text_command_line.specs.declared.choice.Choice.{Choice}
use Rattle.text_command_line.specs.declared.choice.Choice.TheVariants.{Eval}
use Rattle.text_command_line.specs.declared.stop.Stop.{Stop}
use Rattle.text_command_line.specs.declared.stop.Stop.TheVariants.{NoMemory}

pub upc_is_plain : is_plain_command upc_app subcommands ≡ true
unfolding upc_app app_with with_name kinds_in clap_on_literals
upc_is_plain = refl

nothing_taken : faults_in [] ≡ []
unfolding upc_app app_with with_name kinds_in clap_on_literals
nothing_taken = refl

mark_taken : faults_in (codes "--" ∷ []) ≡ []
unfolding upc_app app_with with_name kinds_in clap_on_literals
mark_taken = refl

end_taken : (words : List Text) → IsEnd words → faults_in words ≡ []
end_taken words h = ⊎_elim (λ e. ap faults_in e ∙ nothing_taken) (λ e. ap faults_in e ∙ mark_taken) h

is_choice : (name : Option Text) (row : Option Choice) → IsRowIn subcommands name row → IsChoiceOf name (unwrap_or row Eval)
is_choice None row h = ap (λ row. unwrap_or row Eval) h
is_choice (Some name) None h = absurd h
is_choice (Some name) (Some choice) h = h

names_it : (words : List Text) (row : Option Choice) → NamesIn subcommands words row → NamesSubcommand words (unwrap_or row Eval)
names_it words None h = inl (h, refl)
names_it words (Some choice) h = inr h

pub record ChoiceAnswers (words : List Text) (answer : Result Choice Stop) : Type 0 where
  pub chosen : IfOk answer (IsChosen words)
  pub faultless : IfOk answer (λ _. faults_in words ≡ [])
  pub asked : IfOk answer (NamesSubcommand words)
  pub stopped : IfErr answer (StopsAt (faults_in words))
  pub taken : faults_in words ≡ [] → IfErr answer (λ stop. stop ≡ NoMemory)
  pub granted : (choice : Choice) → NamesSubcommand words choice → IfErr answer (λ stop. stop ≡ NoMemory)

-- The choice of a row is the choice of the words.
pub choice_answers : (words : List Text) (row : Result (Option Choice) Stop) (answer : Result Choice Stop)
    → IfOk row (IsRowIn subcommands (subcommand_in upc_app words)) → IfOk row (λ _. faults_in words ≡ []) → IfOk row (NamesIn subcommands words)
    → IfErr row (StopsAt (faults_in words)) → (faults_in words ≡ [] → IfErr row (λ stop. stop ≡ NoMemory))
    → ((choice : Choice) → NamesRow subcommands words choice → IfErr row (λ stop. stop ≡ NoMemory))
    → IfOk row (λ row. answer ≡ Ok (unwrap_or row Eval)) → IfErr row (λ stop. answer ≡ Err stop)
    → ChoiceAnswers words answer
choice_answers words (Ok row) answer found faultless asked stopped taken granted chosen ended =
    subst (ChoiceAnswers words) (sym chosen) (record {
      chosen = is_choice (subcommand_in upc_app words) row found;
      faultless = faultless;
      asked = names_it words row asked;
      stopped = tt;
      taken = λ _. tt;
      granted = λ _ _. tt;
    })
choice_answers words (Err stop) answer found faultless asked stopped taken granted chosen ended =
    subst (ChoiceAnswers words) (sym ended) (record {
      chosen = tt;
      faultless = tt;
      asked = tt;
      stopped = stopped;
      taken = taken;
      granted = λ choice. elim [
        | inl h ↦ taken (end_taken words h.0)
        | inr h ↦ granted choice h
      ];
    })
