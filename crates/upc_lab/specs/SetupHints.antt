-- The hints about a setup script and the files of rules that it names.
use Rattle.std.specs.Prelude.{◌≡◌, ◌⊎◌, ℕ, List, [], ◌∷◌, ◌++◌, codes, Bool, Option, Some, None, MatchBool}
use Rattle.std.specs.List.{list_any}
use Rattle.std.specs.Str.{bytes_eq}
use Rattle.cmd_explain_rules.specs.HintComments.{AreHintsAbout, no_memory_comment}
use Rattle.cmd_police.specs.ExplainedSetups.{AreHintsOfSetup}
use Rattle.cmd_setups.specs.FilesRead.{files_read}
use Rattle.upc_lab.specs.ShownNames.{shown_name}

-- What comes before a hint about the file of rules with this name.
abbrev pub file_front : List ℕ → List ℕ
file_front name = codes "# " ++ (shown_name name ++ codes ": ")

-- Whether the name is one of these.
abbrev pub is_known : List (List ℕ) → List ℕ → Bool
is_known before name = list_any (λ known. bytes_eq known name) before

-- The hints about a file with this text. A file that isn't read has none, and neither has one that was named before.
abbrev pub AreFileHints : List (List ℕ) → Option (List ℕ) → List ℕ → List ℕ → Type 0
AreFileHints before None text hints = hints ≡ []
AreFileHints before (Some name) text hints = MatchBool (is_known before name) (hints ≡ []) (AreHintsAbout (file_front name) text hints)

-- The names so far, with that of one more file, if it is read.
abbrev pub names_with_file : Option (List ℕ) → List (List ℕ) → List (List ℕ)
names_with_file None before = before
names_with_file (Some name) before = name ∷ before

-- The hints about these files with these texts, in order.
abbrev pub AreFilesHints : List (List ℕ) → List (Option (List ℕ)) → List (List ℕ) → List ℕ → Type 0
AreFilesHints before [] texts hints = hints ≡ []
AreFilesHints before (file ∷ files) [] hints = hints ≡ []
AreFilesHints before (file ∷ files) (text ∷ texts) hints =
    (first more : List ℕ) × AreFileHints before file text first × AreFilesHints (names_with_file file before) files texts more × (hints ≡ first ++ more)

-- The hints about the script itself, if they are wanted.
abbrev pub AreOwnHints : Bool → List ℕ → List (List ℕ) → List ℕ → Type 0
AreOwnHints wanted script texts hints = MatchBool wanted (AreHintsOfSetup script texts hints) (hints ≡ [])

-- The hints about the files of rules that a setup script names, with these texts, and then those about the script
-- itself, if they are wanted.
abbrev pub AreSetupHints : Bool → List ℕ → List (List ℕ) → List ℕ → Type 0
AreSetupHints own script texts hints =
    (first more : List ℕ) × AreFilesHints [] (files_read script) texts first × AreOwnHints own script texts more × (hints ≡ first ++ more)

-- The same, or that no memory was left for them.
abbrev pub MayBeSetupHints : Bool → List ℕ → List (List ℕ) → List ℕ → Type 0
MayBeSetupHints own script texts hints = AreSetupHints own script texts hints ⊎ (hints ≡ no_memory_comment)
