-- The words that fit a command are those of the command.
use Rattle.std.proofs.Common.{◌≡◌, ℕ, suc, ◌+◌, ◌==◌, ◌&&◌, nat_le, Bool, true, false, if◌then◌else◌, List, [], ◌∷◌, Option, Some, None, codes, length, map, option_map, refl, sym, ap, ◌∙◌, arith}
use Rattle.std.proofs.lemmas.Bool.Decides.{nat_tests}
use Rattle.std.specs.Option.{is_some}
use Rattle.std.specs.Str.{bytes_eq}
use Rattle.text_io.specs.Words.{words_of}
use Rattle.upc_cell.specs.Side.{last_vpi}
use Rattle.upc_cell.specs.declared.side.Side.{Side}
use Rattle.upc_cell.specs.declared.vc.Vc.{Vc}
use Rattle.text_script.specs.ScriptCommands.{Command, cell, cell_of_words, command_of, wanted_contracts, cut, cut_of, load_of, only_vc, release, release_of, reload_of, reload_with, retire, retire_of, connection_and_program, setup_of, setup_with}
use Rattle.text_script.specs.ScriptWords.{channel_named, connection_of, number_of_digits, number_up_to, program_of, vc_named, wanted_of, wanted_of_each, with_both}
use Rattle.text_script.specs.declared.script_words.Wanted.{Wanted}
use Rattle.cmd_explain_script.proofs.WordsFound.{finds_words}
use Rattle.cmd_explain_script.specs.CommandFits.{CommandsFit, fits_command, fits_form, least_words}
use Rattle.cmd_explain_script.specs.FoundWords.{found_words, word_octets}
use Rattle.cmd_explain_script.specs.ScriptForms.{card_commands, fits_script_slot, slots_after, words_fitting}
use Rattle.cmd_explain_script.specs.Tables.{value_among}
use Rattle.cmd_explain_script.specs.declared.forms.ScriptForm.{ScriptForm}
use Rattle.cmd_explain_script.specs.declared.forms.ScriptForm.TheVariants as form
use Rattle.cmd_explain_script.specs.declared.forms.ScriptSlot.{ScriptSlot}
use Rattle.cmd_explain_script.specs.declared.forms.ScriptSlot.TheVariants as slot
use Rattle.cmd_explain_script.specs.declared.found_words.FoundWord.{FoundWord}

-- Whether there are no more words than slots, and each fits its slot.
abbrev all_fit : Side → List ScriptSlot → List (List ℕ) → Bool
all_fit side [] [] = true
all_fit side [] (word ∷ words) = false
all_fit side (one ∷ slots) [] = true
all_fit side (one ∷ slots) (word ∷ words) = fits_script_slot side one word && all_fit side slots words

none_fits : (n : ℕ) → (0 == suc n) ≡ false
none_fits n = grind (arith, nat_tests)

one_fits : (c n : ℕ) → (1 + c == suc n) ≡ (c == n)
one_fits c n = grind (arith, nat_tests)

fit_by : (b : Bool) (c n : ℕ) (all : Bool) → (c == n) ≡ all → ((if b then 1 + c else 0) == suc n) ≡ (b && all)
fit_by true c n all is = one_fits c n ∙ is
fit_by false c n all is = none_fits n

fits_all : (side : Side) (line : List ℕ) (slots : List ScriptSlot) (words : List FoundWord)
    → (words_fitting side line slots words == length words) ≡ all_fit side slots (map (word_octets line) words)
fits_all side line [] [] = refl
fits_all side line [] (word ∷ words) = none_fits (length words)
fits_all side line (one ∷ slots) [] = refl
fits_all side line (one ∷ slots) (word ∷ words) =
    fit_by (fits_script_slot side one (word_octets line word)) (words_fitting side line slots words) (length words) (all_fit side slots (map (word_octets line) words))
    (fits_all side line slots words)

same_length : (line : List ℕ) (words : List FoundWord) → length words ≡ length (map (word_octets line) words)
same_length line [] = refl
same_length line (word ∷ words) = ap suc (same_length line words)

-- Whether words may follow a command.
abbrev follows : Side → List (List ℕ) → Option ScriptForm → Bool
follows side words None = false
follows side words (Some form) = nat_le (least_words form) (length words) && all_fit side (slots_after form) words

form_follows : (side : Side) (line : List ℕ) (words : List FoundWord) (found : Option ScriptForm) → fits_form side line words found ≡ follows side (map (word_octets line) words) found
form_follows side line words None = refl
form_follows side line words (Some form) =
    ap (λ (n : ℕ). nat_le (least_words form) n && (words_fitting side line (slots_after form) words == length words)) (same_length line words)
    ∙ ap (λ (b : Bool). nat_le (least_words form) (length (map (word_octets line) words)) && b) (fits_all side line (slots_after form) words)

-- Two options.
some_mapped : {X Y : Type 0} (f : X → Y) (found : Option X) → is_some (option_map f found) ≡ is_some found
some_mapped f None = refl
some_mapped f (Some x) = refl

some_both : {X Y Z : Type 0} (join : X → Y → Z) (one : Option X) (other : Option Y) → is_some (with_both join one other) ≡ (is_some one && is_some other)
some_both join None other = refl
some_both join (Some x) other = some_mapped (join x) other

and_true : (b : Bool) → b ≡ (b && true)
and_true true = refl
and_true false = refl

and_false : (b : Bool) → false ≡ (b && false)
and_false true = refl
and_false false = refl

-- Too many words.
long : (b fits : Bool) → false ≡ fits → false ≡ (b && fits)
long true fits is = is
long false fits is = refl

too_many : (enough few : Bool) (found : Option (List Wanted)) → few ≡ false → is_some (if enough && few then found else None) ≡ false
too_many true true found is = let no = is in absurd cc
too_many true false found is = refl
too_many false few found is = refl

above_four : (n : ℕ) → nat_le (suc (suc (suc (suc (suc n))))) 4 ≡ false
above_four n = grind (arith, nat_tests)

and_apart : (a b c : Bool) → ((a && b) && c) ≡ (a && (b && c))
and_apart true b c = refl
and_apart false b c = refl

module _ (side : Side) where
  some_vc : (path channel : List ℕ) → is_some (vc_named side path channel) ≡ (fits_script_slot side slot.Path path && fits_script_slot side slot.Channel channel)
  some_vc path channel = some_both connection_of (number_up_to (last_vpi side) path) (channel_named side channel)

  some_seat : (path channel name : List ℕ)
      → is_some (connection_and_program side path channel name) ≡ (fits_script_slot side slot.Path path && (fits_script_slot side slot.Channel channel && fits_script_slot side slot.Program name))
  some_seat path channel name =
      some_both (λ vc number. (vc, number)) (vc_named side path channel) (program_of name)
      ∙ ap (λ (b : Bool). b && is_some (program_of name)) (some_vc path channel)
      ∙ and_apart (fits_script_slot side slot.Path path) (fits_script_slot side slot.Channel channel) (is_some (program_of name))

  load_follows : (words : List (List ℕ)) → is_some (load_of words) ≡ follows side words (Some form.Loading)
  load_follows [] = refl
  load_follows (digits ∷ []) = refl
  load_follows (digits ∷ other ∷ words) = and_false (nat_le 1 (length (digits ∷ other ∷ words)))

  retire_follows : (words : List (List ℕ)) → is_some (retire_of words) ≡ follows side words (Some form.Retiring)
  retire_follows [] = refl
  retire_follows (name ∷ []) = some_mapped (λ number. retire number) (program_of name) ∙ and_true (is_some (program_of name))
  retire_follows (name ∷ other ∷ words) = long (nat_le 1 (length (name ∷ other ∷ words))) _ (and_false (is_some (program_of name)))

  named_follows : (make : Vc → Command) (words : List (List ℕ)) → is_some (option_map make (only_vc side words)) ≡ follows side words (Some form.OneConnection)
  named_follows make [] = refl
  named_follows make (path ∷ []) = refl
  named_follows make (path ∷ channel ∷ []) =
      some_mapped make (vc_named side path channel) ∙ some_vc path channel
      ∙ ap (λ (b : Bool). fits_script_slot side slot.Path path && b) (and_true (fits_script_slot side slot.Channel channel))
  named_follows make (path ∷ channel ∷ other ∷ words) =
      long (nat_le 2 (length (path ∷ channel ∷ other ∷ words))) _
      (long (fits_script_slot side slot.Path path) _ (and_false (fits_script_slot side slot.Channel channel)))

  cell_follows : (words : List (List ℕ)) → is_some (cell_of_words words) ≡ follows side words (Some form.Arrival)
  cell_follows [] = refl
  cell_follows (moment ∷ []) = refl
  cell_follows (moment ∷ digits ∷ []) = some_mapped (λ ticks. cell ticks digits) (number_of_digits moment) ∙ and_true (is_some (number_of_digits moment))
  cell_follows (moment ∷ digits ∷ other ∷ words) =
      long (nat_le 2 (length (moment ∷ digits ∷ other ∷ words))) _ (and_false (is_some (number_of_digits moment)))

  reload_follows : (words : List (List ℕ)) → is_some (reload_of side words) ≡ follows side words (Some form.Reloading)
  reload_follows [] = refl
  reload_follows (path ∷ []) = refl
  reload_follows (path ∷ channel ∷ []) = refl
  reload_follows (path ∷ channel ∷ name ∷ []) =
      some_mapped reload_with (connection_and_program side path channel name) ∙ some_seat path channel name
      ∙ ap (λ (b : Bool). fits_script_slot side slot.Path path && (fits_script_slot side slot.Channel channel && b)) (and_true (fits_script_slot side slot.Program name))
  reload_follows (path ∷ channel ∷ name ∷ other ∷ words) =
      long (nat_le 3 (length (path ∷ channel ∷ name ∷ other ∷ words))) _
      (long (fits_script_slot side slot.Path path) _
      (long (fits_script_slot side slot.Channel channel) _ (and_false (fits_script_slot side slot.Program name))))

  -- One to four contracts.
  some_wanted : (word : List ℕ) (words : List (List ℕ)) → is_some (wanted_of_each (word ∷ words)) ≡ (is_some (wanted_of word) && is_some (wanted_of_each words))
  some_wanted word words = some_both (λ first later. first ∷ later) (wanted_of word) (wanted_of_each words)

  abbrev contract_slots : List ScriptSlot
  contract_slots = slot.Contract ∷ slot.Contract ∷ slot.Contract ∷ slot.Contract ∷ []

  contracts_follow : (words : List (List ℕ)) → is_some (wanted_contracts words) ≡ (nat_le 1 (length words) && all_fit side contract_slots words)
  contracts_follow [] = refl
  contracts_follow (a ∷ []) = some_wanted a []
  contracts_follow (a ∷ b ∷ []) = some_wanted a (b ∷ []) ∙ ap (λ (t : Bool). is_some (wanted_of a) && t) (some_wanted b [])
  contracts_follow (a ∷ b ∷ c ∷ []) =
      some_wanted a (b ∷ c ∷ [])
      ∙ ap (λ (t : Bool). is_some (wanted_of a) && t) (some_wanted b (c ∷ []) ∙ ap (λ (t : Bool). is_some (wanted_of b) && t) (some_wanted c []))
  contracts_follow (a ∷ b ∷ c ∷ d ∷ []) =
      some_wanted a (b ∷ c ∷ d ∷ [])
      ∙ ap (λ (t : Bool). is_some (wanted_of a) && t)
      (some_wanted b (c ∷ d ∷ []) ∙ ap (λ (t : Bool). is_some (wanted_of b) && t) (some_wanted c (d ∷ []) ∙ ap (λ (t : Bool). is_some (wanted_of c) && t) (some_wanted d [])))
  contracts_follow (a ∷ b ∷ c ∷ d ∷ e ∷ words) =
      too_many (nat_le 1 (length (a ∷ b ∷ c ∷ d ∷ e ∷ words))) (nat_le (length (a ∷ b ∷ c ∷ d ∷ e ∷ words)) 4) (wanted_of_each (a ∷ b ∷ c ∷ d ∷ e ∷ words))
      (above_four (length words))
      ∙ long (nat_le 1 (length (a ∷ b ∷ c ∷ d ∷ e ∷ words))) _
      (long (is_some (wanted_of a)) _ (long (is_some (wanted_of b)) _ (long (is_some (wanted_of c)) _ (and_false (is_some (wanted_of d))))))

  -- A word more at the front of three.
  seat_and : (a b c n all : Bool) → ((a && (b && c)) && (n && all)) ≡ (n && (a && (b && (c && all))))
  seat_and true true true n all = refl
  seat_and true true false true all = refl
  seat_and true true false false all = refl
  seat_and true false c true all = refl
  seat_and true false c false all = refl
  seat_and false b c true all = refl
  seat_and false b c false all = refl

  more_words : (n : ℕ) → nat_le 1 n ≡ nat_le 4 (suc (suc (suc n)))
  more_words n = grind (arith, nat_tests)

  setup_follows : (words : List (List ℕ)) → is_some (setup_of side words) ≡ follows side words (Some form.Setting)
  setup_follows [] = refl
  setup_follows (path ∷ []) = refl
  setup_follows (path ∷ channel ∷ []) = refl
  setup_follows (path ∷ channel ∷ name ∷ contracts) =
      let one = fits_script_slot side slot.Path path in
      let two = fits_script_slot side slot.Channel channel in
      let three = fits_script_slot side slot.Program name in
      let all = all_fit side contract_slots contracts in
      some_both setup_with (connection_and_program side path channel name) (wanted_contracts contracts)
      ∙ ap (λ (b : Bool). b && is_some (wanted_contracts contracts)) (some_seat path channel name)
      ∙ ap (λ (b : Bool). (one && (two && three)) && b) (contracts_follow contracts)
      ∙ seat_and one two three (nat_le 1 (length contracts)) all
      ∙ ap (λ (b : Bool). b && (one && (two && (three && all)))) (more_words (length contracts))

  -- The name of a command.
  by_name : (cells loads retires setups reloads releases cuts : Bool) (words : List (List ℕ))
      → is_some (if cells then cell_of_words words else if loads then load_of words else if retires then retire_of words else if setups then setup_of side words
      else if reloads then reload_of side words else if releases then release_of side words else if cuts then cut_of side words else None)
      ≡ follows side words (if cells then Some form.Arrival else (if loads then Some form.Loading else (if retires then Some form.Retiring else (if setups then Some form.Setting
      else (if reloads then Some form.Reloading else (if releases then Some form.OneConnection else (if cuts then Some form.OneConnection else None)))))))
  by_name true loads retires setups reloads releases cuts words = cell_follows words
  by_name false true retires setups reloads releases cuts words = load_follows words
  by_name false false true setups reloads releases cuts words = retire_follows words
  by_name false false false true reloads releases cuts words = setup_follows words
  by_name false false false false true releases cuts words = reload_follows words
  by_name false false false false false true cuts words = named_follows (λ vc. release vc) words
  by_name false false false false false false true words = named_follows (λ vc. cut vc) words
  by_name false false false false false false false words = refl

  -- All words of a line.
  abbrev is_whole : List (List ℕ) → Bool
  is_whole [] = false
  is_whole (name ∷ words) = follows side words (value_among name card_commands)

  command_whole : (words : List (List ℕ)) → is_some (command_of side words) ≡ is_whole words
  command_whole [] = refl
  command_whole (name ∷ words) =
      by_name (bytes_eq name (codes "cell")) (bytes_eq name (codes "load")) (bytes_eq name (codes "retire")) (bytes_eq name (codes "setup")) (bytes_eq name (codes "reload"))
      (bytes_eq name (codes "release")) (bytes_eq name (codes "cut")) words

  found_whole : (line : List ℕ) (words : List FoundWord) → fits_command side line words ≡ is_whole (map (word_octets line) words)
  found_whole line [] = refl
  found_whole line (first ∷ words) = form_follows side line words (value_among (word_octets line first) card_commands)

pub commands_fit : CommandsFit
commands_fit side line = command_whole side (words_of line) ∙ sym (found_whole side line (found_words line) ∙ ap (is_whole side) (finds_words line))
