-- The grammar of lines.
use Rattle.std.specs.Prelude.{◌≡◌, ◌⊎◌, ℕ, List, [], ◌∷◌, ◌++◌, Option, Some, None}
use Rattle.bpf_asm.specs.StatementSpelling.{Part, Statement, spelling_tokens, spellings}
use Rattle.bpf_asm.specs.Tokens.{Token, name, mark, tokens_in}

-- A line is empty, a label, an instruction, or a label and an instruction.
pub record SourceLine : Type 0 where
  pub label : Option (List ℕ)
  pub statement : Option Statement

-- The tokens are those of one of these spellings.
abbrev pub IsOneOf : List Token → List (List Part) → Type 0
IsOneOf tokens [] = ⊥
IsOneOf tokens (spelling ∷ more) = (tokens ≡ spelling_tokens spelling) ⊎ IsOneOf tokens more

-- The tokens spell this statement, or there are none and no statement.
abbrev pub IsStatement : List Token → Option Statement → Type 0
IsStatement tokens None = tokens ≡ []
IsStatement tokens (Some statement) = IsOneOf tokens (spellings statement)

-- The tokens of a label: a name and `:`.
abbrev pub label_tokens : Option (List ℕ) → List Token
label_tokens None = []
label_tokens (Some octets) = name octets ∷ mark 58 ∷ []

-- The tokens are those of this line: its label, and then a spelling of its statement.
abbrev pub AreLineTokens : List Token → SourceLine → Type 0
AreLineTokens tokens line = (rest : List Token) × (tokens ≡ label_tokens line.label ++ rest) × IsStatement rest line.statement

-- The octets of a line are in the grammar and parse as this.
unfoldable pub IsSourceLine : List ℕ → SourceLine → Type 0
IsSourceLine octets line = AreLineTokens (tokens_in octets) line

-- The lines of a source parse as these, in order.
abbrev pub AreLines : List (List ℕ) → List SourceLine → Type 0
AreLines [] lines = lines ≡ []
AreLines (octets ∷ more) [] = ⊥
AreLines (octets ∷ more) (line ∷ lines) = IsSourceLine octets line × AreLines more lines
