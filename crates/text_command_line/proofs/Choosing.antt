-- What the words of a plain command name.
use Rattle.std.proofs.Common.{◌≡◌, ◌∙◌, ⊎_elim, Bool, ap, codes, find, fold, refl, subst, sym, true, false, not, inl, inr, List, [], ◌∷◌, Option, Some, None, IfErr, IfOk, IfSome, IsErrAnd, IsOkAnd, IsSome, Ok, Err, is_some, option_map, Result}
use Rattle.std.specs.List.{list_all}
use Rattle.std.specs.Borrow.{Bor}
use Rattle.std.specs.Str.{bytes_eq}
use Rattle.std.proofs.lemmas.Slice.Eq.{bytes_eq-Decides}
use Rattle.clap.specs.Walk.{Text, is_empty}
use Rattle.clap.specs.Values.{kind_of}
use Rattle.clap.specs.Simple.{App, argument_words, built}
use Rattle.clap.specs.Kinds.{FailsBy}
use Rattle.clap.specs.Faults.{is_simple_and_free}
use Rattle.clap.specs.declared.error.Error.{Error}
use Rattle.clap.proofs.SimpleLemmas.{is_nil}
use Rattle.clap.proofs.WalkLemmas.{both}
use Rattle.text_command_line.specs.CommandLines.{kinds_in, named_words, subcommand_in}
use Rattle.text_command_line.specs.PlainCommands.{has_requests_alone, is_plain_command, is_plain_subcommand, is_taken}
use Rattle.text_command_line.specs.Stopping.{StopsAt}
use Rattle.text_command_line.specs.inner.StopFor.{IsStopFor}
use Rattle.text_command_line.specs.Subcommands.{IsRowIn, NamesIn, NamesRow, app_with, bare_app, meaning_in, with_name}
use Rattle.text_command_line.specs.declared.stop.Stop.{Stop}
use Rattle.text_command_line.specs.declared.stop.Stop.TheVariants.{NoMemory}
use Rattle.text_command_line.proofs.PlainWords.{Finds, find_both, finds, is_off}
use Rattle.text_command_line.proofs.Stops.{memory_alone, stops_at}

abbrev known_in : {Meaning : Type 0} → List (Text × Meaning) → Text → Bool
known_in table name = is_some (meaning_in table name)

-- ---- what a plain command is

pub record IsPlain {Meaning : Type 0} (app : App) (table : List (Text × Meaning)) : Type 0 where
  pub free : is_simple_and_free app ≡ true
  pub subcommands : list_all (is_plain_subcommand (known_in table)) (built app).subs ≡ true
  pub options : has_requests_alone (built app).top ≡ true
  pub offers_help : (built app).top.disable_help_subcommand ≡ false
  pub named_first : app.top.no_binary_name ≡ false
  pub taken : list_all (λ row. is_taken app row.0) table ≡ true

pub is_plain : {Meaning : Type 0} (app : App) (table : List (Text × Meaning)) → is_plain_command app table ≡ true → IsPlain app table
is_plain app table plain =
    let one = both (is_simple_and_free app) _ plain in
    let two = both (list_all (is_plain_subcommand (known_in table)) (built app).subs) _ one.1 in
    let three = both (has_requests_alone (built app).top) _ two.1 in
    let four = both (not (built app).top.disable_help_subcommand) _ three.1 in
    let five = both (not app.top.no_binary_name) (list_all (λ row. is_taken app row.0) table) four.1 in
    record {
      free = one.0;
      subcommands = two.0;
      options = three.0;
      offers_help = is_off _ four.0;
      named_first = is_off _ five.0;
      taken = five.1;
    }

-- ---- words without an error

words_after : (app : App) (words : List Text) → app.top.no_binary_name ≡ false → argument_words app (named_words app words) ≡ words
words_after app words off = rw off refl

found_in : {Meaning : Type 0} (app : App) (table : List (Text × Meaning)) (words : List Text) → IsPlain app table → kinds_in app words ≡ []
    → Finds (known_in table) words (subcommand_in app words)
unfolding kinds_in subcommand_in
found_in app table words plain none =
    subst (λ given. Finds (known_in table) given (subcommand_in app words)) (words_after app words plain.named_first)
    (finds (known_in table) app (named_words app words) plain.subcommands plain.options plain.offers_help none)

named_by : {Meaning : Type 0} (table : List (Text × Meaning)) (words : List Text) (found : Option Text) → Finds (known_in table) words found
    → IfSome found (λ name. known_in table name ≡ true)
named_by table words found (inl h) = subst (λ o. IfSome o (λ name. known_in table name ≡ true)) (sym h.1) tt
named_by table words found (inr h) = subst (λ o. IfSome o (λ name. known_in table name ≡ true)) (sym h.3) h.4

some_named : {Meaning : Type 0} (table : List (Text × Meaning)) (name : Option (Bor Text))
    → IfSome (option_map (λ text. text.now) name) (λ name. known_in table name ≡ true)
    → IfSome name (λ text. IsSome (meaning_in table text.now))
some_named table None h = tt
some_named table (Some text) h = h

-- A subcommand that is found is in the table.
pub named_in : {Meaning : Type 0} (app : App) (table : List (Text × Meaning)) (words : List Text) (found : Result (Option (Bor Text)) Error)
    → IsPlain app table → FailsBy (kinds_in app words) found → IfOk found (λ name. option_map (λ text. text.now) name ≡ subcommand_in app words)
    → IfOk found (λ name. IfSome name (λ text. IsSome (meaning_in table text.now)))
named_in app table words (Ok name) plain none met =
    some_named table name
    (subst (λ o. IfSome o (λ n. known_in table n ≡ true)) (sym met) (named_by table words (subcommand_in app words) (found_in app table words plain none)))
named_in app table words (Err error) plain kinds met = tt

-- Words without an error are the name of a row and nothing more, or no words.
asks_at : {Meaning : Type 0} (table : List (Text × Meaning)) (words : List Text) (meaning : Option Meaning) (found : Option Text)
    → IsRowIn table found meaning → Finds (known_in table) words found → NamesIn table words meaning
asks_at table words None found row (inl h) = h.0
asks_at table words (Some meaning) found row (inl h) =
    let bad : Some meaning ≡ None = subst (λ o. IsRowIn table o (Some meaning)) h.1 row in cc
asks_at table words None found row (inr h) = absurd (subst (λ o. IsRowIn table o None) h.3 row)
asks_at table words (Some meaning) found row (inr h) =
    (h.0, h.1, h.2, subst (λ o. IsRowIn table o (Some meaning)) h.3 row, h.5)

row_taken : {Meaning : Type 0} (app : App) (table : List (Text × Meaning)) (name : Text) (meaning : Meaning) → list_all (λ row. is_taken app row.0) table ≡ true
    → meaning_in table name ≡ Some meaning → is_taken app name ≡ true
row_taken {Meaning = Meaning} app table name meaning each named =
    go (find (λ row. bytes_eq row.0 name) table) named (find_both (λ row. is_taken app row.0) (λ row. bytes_eq row.0 name) table each)
  where
    go : (o : Option (Text × Meaning)) → option_map (λ row. row.1) o ≡ Some meaning → IfSome o (λ row. (is_taken app row.0 ≡ true) × (bytes_eq row.0 name ≡ true)) → is_taken app name ≡ true
    go None e h = cc
    go (Some row) e h = subst (λ n. is_taken app n ≡ true) ((bytes_eq-Decides row.0 name).0 h.1) h.0

-- The name of a row and nothing more has no error.
taken_at : {Meaning : Type 0} (app : App) (table : List (Text × Meaning)) (words : List Text) (meaning : Meaning) → list_all (λ row. is_taken app row.0) table ≡ true
    → NamesRow table words meaning → kinds_in app words ≡ []
taken_at app table words meaning each h =
    let name = h.0 in
    let parts = both (is_empty (kinds_in app (name ∷ []))) (is_empty (kinds_in app (name ∷ codes "--" ∷ []))) (row_taken app table name meaning each h.3) in
    ap (kinds_in app) h.2
    ∙ ⊎_elim (λ e. ap (λ rest. kinds_in app (name ∷ rest)) e ∙ is_nil _ parts.0) (λ e. ap (λ rest. kinds_in app (name ∷ rest)) e ∙ is_nil _ parts.1) h.4

-- ---- the contract of `row_of_words`

pub record Answers {Meaning : Type 0} (app : App) (table : List (Text × Meaning)) (words : List Text) (answer : Result (Option Meaning) Stop) : Type 0 where
  pub found : IfOk answer (IsRowIn table (subcommand_in app words))
  pub faultless : IfOk answer (λ _. kinds_in app words ≡ [])
  pub asked : IfOk answer (NamesIn table words)
  pub stopped : IfErr answer (StopsAt (kinds_in app words))
  pub taken : kinds_in app words ≡ [] → IfErr answer (λ stop. stop ≡ NoMemory)
  pub granted : (meaning : Meaning) → NamesRow table words meaning → IfErr answer (λ stop. stop ≡ NoMemory)

pub answers : {Meaning : Type 0} (app : App) (table : List (Text × Meaning)) (words : List Text) (found : Result (Option (Bor Text)) Error) (answer : Result (Option Meaning) Stop)
    → IsPlain app table → FailsBy (kinds_in app words) found
    → IfOk found (λ name. option_map (λ text. text.now) name ≡ subcommand_in app words)
    → IfOk found (λ name. IsOkAnd answer (IsRowIn table (option_map (λ text. text.now) name)))
    → IfErr found (λ error. IsErrAnd answer (IsStopFor (kind_of error)))
    → Answers app table words answer
answers app table words (Ok name) (Ok meaning) plain none met named stopped =
    let row : IsRowIn table (subcommand_in app words) meaning = subst (λ o. IsRowIn table o meaning) met named in
    record {
      found = row;
      faultless = none;
      asked = asks_at table words meaning (subcommand_in app words) row (found_in app table words plain none);
      stopped = tt;
      taken = λ _. tt;
      granted = λ _ _. tt;
    }
answers app table words (Ok name) (Err stop) plain none met named stopped = absurd named
answers app table words (Err error) (Ok meaning) plain kinds met named stopped = absurd stopped
answers app table words (Err error) (Err stop) plain kinds met named stopped = record {
  found = tt;
  faultless = tt;
  asked = tt;
  stopped = stops_at (kinds_in app words) error stop kinds stopped;
  taken = memory_alone (kinds_in app words) error stop kinds stopped;
  granted = λ meaning asks. memory_alone (kinds_in app words) error stop kinds stopped (taken_at app table words meaning plain.taken asks);
}

-- ---- the line of a program

-- Subcommands leave the name as it is.
name_stays : (app : App) (names : List Text) → (fold with_name app names).top.name ≡ app.top.name
unfolding with_name
name_stays app [] = refl
name_stays app (name ∷ names) = name_stays (with_name app name) names

pub own_line : (name : Text) (wants_one : Bool) (names words line : List Text) → line ≡ name ∷ words → line ≡ named_words (app_with name wants_one names) words
unfolding app_with
own_line name wants_one names words line is =
    is ∙ ap (λ own. own ∷ words) (sym (name_stays (bare_app name wants_one) names))
