-- The files that the words name: a setup script and the files of rules that it names, an old text of `differ`, or the
-- rules of `fit`. Their names, their octets, and the message that one of them can't be read.
use Rattle.std.specs.Prelude.{◌≡◌, ◌⊎◌, ◌==◌, IsTrue, if◌then◌else◌, ℕ, List, [], ◌++◌, Option, Some, None, Bool, false, Result, Ok, Err, codes, is_some, length, option_map}
use Rattle.std.specs.Path.{path_with_file_name}
use Rattle.std.specs.Str.{bytes_eq}
use Rattle.std.specs.String.{string_bytes}
use Rattle.cmd_setups.specs.SharedTexts.{octets_of_texts}
use Rattle.text_command_line.specs.ShownWords.{shown_word}
use Rattle.text_command_line.specs.declared.stop.Stop.{Stop}
use Rattle.cmd_options.specs.declared.differ.DifferOptions.{DifferOptions}
use Rattle.upc_lab.specs.ShownNames.{shown_name}
use Rattle.cmd_options.specs.declared.choice.Asked.{Asked}
use Rattle.cmd_options.specs.declared.choice.Asked.TheVariants.{Plain, Why, Cells, Fit, Police, Differ, Forward, Explain}
use Rattle.upc_lab.specs.declared.named_files.NamedFiles.{NamedFiles}
use Rattle.upc_lab.specs.declared.named_files.Unreadable.{Unreadable}

-- The name of the file with the setup script, if the words name one.
abbrev pub setup_name : Result Asked Stop → Option (List ℕ)
setup_name (Ok (Police options)) = Some (string_bytes options.setup)
setup_name (Ok (Forward options)) = Some (string_bytes options.setup)
setup_name (Ok (Explain options)) = option_map string_bytes options.setup
setup_name _ = None

-- Whether the words ask that a setup script is explained.
abbrev pub explains_setup : Result Asked Stop → Bool
explains_setup (Ok (Plain subcommand)) = false
explains_setup (Ok (Why options)) = false
explains_setup (Ok (Cells options)) = false
explains_setup (Ok (Fit options)) = false
explains_setup (Ok (Police options)) = false
explains_setup (Ok (Forward options)) = false
explains_setup (Ok (Differ options)) = false
explains_setup (Ok (Explain options)) = is_some options.setup
explains_setup (Err stop) = false

-- What `differ` is asked for, if the words ask for it.
abbrev pub differ_in : Result Asked Stop → Option DifferOptions
differ_in (Ok (Plain subcommand)) = None
differ_in (Ok (Why options)) = None
differ_in (Ok (Cells options)) = None
differ_in (Ok (Fit options)) = None
differ_in (Ok (Police options)) = None
differ_in (Ok (Forward options)) = None
differ_in (Ok (Differ options)) = Some options
differ_in (Ok (Explain options)) = None
differ_in (Err stop) = None

-- The name of the file with the old text, if the words name one.
abbrev pub old_name : Result Asked Stop → Option (List ℕ)
old_name chosen = option_map (λ options. string_bytes options.old) (differ_in chosen)

-- The name of the file with the rules of `fit`, if the words name one.
abbrev pub fit_rules_name : Result Asked Stop → Option (List ℕ)
fit_rules_name (Ok (Plain subcommand)) = None
fit_rules_name (Ok (Why options)) = None
fit_rules_name (Ok (Cells options)) = None
fit_rules_name (Ok (Fit options)) = option_map string_bytes options.rules
fit_rules_name (Ok (Police options)) = None
fit_rules_name (Ok (Forward options)) = None
fit_rules_name (Ok (Differ options)) = None
fit_rules_name (Ok (Explain options)) = None
fit_rules_name (Err stop) = None

-- The name of a file that the command line gives by a word that is shown as this.
abbrev pub IsGivenAs : List ℕ → List ℕ → Type 0
IsGivenAs name shown = (name ≡ shown) ⊎ IsTrue (bytes_eq (shown_word name) shown)

-- The message that the file with this name can't be read, with the name as it is shown and the reason, in the words of the system or of
-- this program.
abbrev pub unreadable_line : List ℕ → List ℕ → List ℕ
unreadable_line name reason = codes "upc-lab: cannot read " ++ (shown_name name ++ (codes ": " ++ (reason ++ codes "\n")))

-- The message without the name and a reason, for which no allocation was left.
abbrev pub plain_unreadable_line : List ℕ
plain_unreadable_line = codes "upc-lab: cannot read a file that it was given\n"

-- The line is the message about the file with this name, or is empty because no allocation was left for it.
abbrev pub IsUnreadable : List ℕ → Unreadable → Type 0
IsUnreadable name unreadable = (unreadable.line.items ≡ []) ⊎ (unreadable.line.items ≡ unreadable_line name unreadable.reason.items)

-- The same, of the setup script with this name, of a file of rules beside it, or of one whose name stays as the script has it.
abbrev pub IsUnreadableSetup : List ℕ → Unreadable → Type 0
IsUnreadableSetup name unreadable =
    IsUnreadable name unreadable ⊎ ((rules : List ℕ) × (IsUnreadable rules unreadable ⊎ IsUnreadable (path_with_file_name name rules) unreadable))

-- The same, of the setup script that is shown by this name.
abbrev pub IsUnreadableShown : List ℕ → Unreadable → Type 0
IsUnreadableShown shown unreadable =
    IsUnreadable shown unreadable ⊎ ((name : List ℕ) × IsGivenAs name shown × IsUnreadableSetup name unreadable)

-- The message.
abbrev pub unreadable_message : Unreadable → List ℕ
unreadable_message unreadable = if length unreadable.line.items == 0 then plain_unreadable_line else unreadable.line.items

-- The nanoseconds of the tick that the setup script names, if it names one.
abbrev pub tick_in_files : NamedFiles → Option ℕ
tick_in_files files = option_map (λ tick. tick.nanoseconds) files.tick

-- The octets of the file of rules of each line, in order.
abbrev pub rules_in_files : NamedFiles → List (List ℕ)
rules_in_files files = octets_of_texts files.rules.items
