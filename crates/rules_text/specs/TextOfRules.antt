-- The rules of a text, or its first fault.
use Rattle.std.specs.Prelude.{ℕ, ◌+◌, ◌-◌, ◌==◌, ◌&&◌, Bool, true, false, not, nat_le, nat_lt, if◌then◌else◌, slice_index, map, take, List, [], ◌∷◌, ◌++◌, length, Result, Ok, Err}
use Rattle.std.specs.Option.{is_some}
use Rattle.bpf_asm.specs.Tokens.{is_word}
use Rattle.text_io.specs.Words.{is_digit}
use Rattle.upc_cell.specs.declared.side.Side.{Side}
use Rattle.upc_cell.specs.declared.side.Side.TheVariants.{Uni}
use Rattle.rules_text.specs.ContinuedLines.{first_token_place, line_begin, place_past, rule_lines, rule_place}
use Rattle.rules_text.specs.declared.place.TextPlace.{TextPlace}
use Rattle.rules_text.specs.declared.place.RulePlace.{RulePlace}
use Rattle.rules_text.specs.RulesRead.{LineRead, RulesRead, rule_line, block_line, end_line}
use Rattle.rules_text.specs.declared.lexer.Sign.TheVariants.{Equal as equal_sign}
use Rattle.rules_text.specs.RuleTokens.{RuleFound, RuleToken, contract_value, contract_word, define_word, rule_tokens, sign_mark}
use Rattle.rules_text.specs.LineGrammar.{LineContext, Reading, StatementRead, blank_statement, side_statement, line_statement, value_statement, may_be_name, read_token, statement_at_end}
use Rattle.rules_text.specs.Names.{FormRead, rule_form, value_form, NameRead, defined_as, expanded, definition_form, form_start, letters_of, most_added, name_meaning, room_left}
use Rattle.rules_text.specs.declared.fault.RuleFault.{RuleFault}
use Rattle.rules_text.specs.declared.fault.RuleFaultKind.{RuleFaultKind}
use Rattle.rules_text.specs.declared.fault.RuleFaultKind.TheVariants.{AfterOtherwise, BadLine, NameTaken, TooLong, Unbalanced}

-- Goes on with what was read, or turns the fault into another.
abbrev pub read_then : {A B E F : Type 0} → Result A E → (E → F) → (A → Result B F) → Result B F
read_then (Ok found) fault next = next found
read_then (Err error) fault next = Err (fault error)

-- The column of a fault that the token at this column is. `Unbalanced` has that of the outermost open parenthesis, if one is open.
abbrev pub fault_column : Reading → RuleFaultKind → ℕ → ℕ
fault_column reading Unbalanced column = if nat_lt 0 (length reading.around) then reading.outermost else column
fault_column reading _ column = column

-- The fault at this place.
abbrev pub placed_fault : ℕ → ℕ → RuleFaultKind → RuleFault
placed_fault line column kind = record { line = line; column = column; kind = kind }

-- A fault of a line of rules, at this column of it. Where the line is in the text isn't known yet, so it has no line.
abbrev pub fault_in_line : ℕ → RuleFaultKind → RuleFault
fault_in_line column kind = placed_fault 0 column kind

-- The statement of a line of which this was read, and these tokens follow. The column is the one after the last token that was read.
-- Columns count from 1.
unfoldable pub statement_from : LineContext → Reading → ℕ → List RuleFound → Result StatementRead RuleFault
statement_from context reading column [] =
    read_then (statement_at_end reading.awaited reading.statement) (λ kind. fault_in_line column kind) (λ statement. Ok statement)
statement_from context reading column (found ∷ rest) =
    read_then (read_token context found.column reading found.token)
    (λ kind. fault_in_line (fault_column reading kind found.column) kind)
    (λ next. statement_from context next found.after rest)

-- The statement of the tokens of a line from this column on, read in this form: as a line of rules, the number of a contract, or what a
-- name means. These are the names that were given.
abbrev pub formed_statement : LineContext → List NameRead → FormRead → List ℕ → ℕ → List RuleFound → Result StatementRead RuleFault
formed_statement context names form line column tokens =
    statement_from context (form_start form) column (expanded names context.room form line column tokens)

-- What was read of a text.
pub record TextReading : Type 0 where
  -- the side at which headers are read
  pub side : Side
  -- the lines of rules so far
  pub lines : List LineRead
  -- where these lines begin
  pub begins : List RulePlace
  -- the names, in the order in which they were given
  pub names : List NameRead
  -- how many tokens names may still add
  pub room : ℕ
  -- the value where no rule gives one
  pub otherwise : ℕ
  -- how many blocks are open
  pub blocks : ℕ
  -- the place of the head of the outermost open block
  pub head : TextPlace
  -- whether a line with tokens was read
  pub begun : Bool
  -- whether `otherwise` was read
  pub closed : Bool

-- Nothing of a text was read.
abbrev pub no_text_read : TextReading
no_text_read = record {
  side = Uni;
  lines = [];
  begins = [];
  names = [];
  room = most_added;
  otherwise = 0;
  blocks = 0;
  head = record { line = 0; column = 0 };
  begun = false;
  closed = false;
}

-- What was read, with one more line of rules. It begins at this place, and its first token is at this column of it.
abbrev pub with_line : TextReading → LineRead → TextPlace → ℕ → TextReading
with_line text (rule_line test value) begin column =
    record text { lines = text.lines ++ rule_line test value ∷ []; begins = text.begins ++ rule_place begin column ∷ []; begun = true }
with_line text (block_line test) begin column = record text {
  lines = text.lines ++ block_line test ∷ [];
  begins = text.begins ++ rule_place begin column ∷ [];
  blocks = text.blocks + 1;
  head = (if nat_lt 0 text.blocks then text.head else first_token_place begin column);
  begun = true;
}
with_line text end_line begin column = record text {
  lines = text.lines ++ end_line ∷ [];
  begins = text.begins ++ rule_place begin column ∷ [];
  blocks = text.blocks - 1;
  begun = true;
}

-- What was read, with the statement of a line that begins at this place and has its first token at this column.
abbrev pub text_with : TextReading → TextPlace → ℕ → StatementRead → TextReading
text_with text begin column blank_statement = text
text_with text begin column (side_statement side) = record text { side = side; begun = true }
text_with text begin column (value_statement value) = record text { otherwise = value; closed = true; begun = true }
text_with text begin column (line_statement statement) = with_line text statement begin column

-- What the reading of a line needs from the lines before it.
abbrev pub context_of : TextReading → LineContext
context_of text = record { side = text.side; blocks = text.blocks; begun = text.begun; room = text.room }

-- Whether a word begins with this octet.
abbrev pub starts_word : ℕ → Bool
starts_word octet = is_word octet && not (is_digit octet)

-- The letters of a new name: a word that is none of the language, and no name that was given. A text gives at most 4096 names.
abbrev pub new_name : List NameRead → List ℕ → RuleToken → Result (List ℕ) RuleFaultKind
new_name names letters token =
    if may_be_name token
    then (if is_some (name_meaning names letters) then Err NameTaken else (if nat_le 4096 (length names) then Err TooLong else Ok letters))
    else (if starts_word (slice_index letters 0) then Err NameTaken else Err BadLine)

-- A name where it is given: its letters and its column, and what comes after its `=`.
pub record NameFound : Type 0 where
  pub letters : List ℕ
  pub column : ℕ
  pub after : ℕ
  pub tokens : List RuleFound

-- Whether a token is `=`.
abbrev pub is_equal : RuleToken → Bool
is_equal (sign_mark equal_sign) = true
is_equal _ = false

-- The `=` after a name.
abbrev pub name_with_sign : List ℕ → ℕ → ℕ → List RuleFound → Result NameFound RuleFault
name_with_sign letters column after [] = Err (fault_in_line after BadLine)
name_with_sign letters column after (sign ∷ rest) =
    if is_equal sign.token
    then Ok (record { letters = letters; column = column; after = sign.after; tokens = rest })
    else Err (fault_in_line sign.column BadLine)

-- The name that these tokens give, which come after `define` or `contract`.
abbrev pub name_found : List NameRead → List ℕ → ℕ → List RuleFound → Result NameFound RuleFault
name_found names line after [] = Err (fault_in_line after BadLine)
name_found names line after (name ∷ rest) =
    read_then (new_name names (letters_of line name) name.token) (λ kind. fault_in_line name.column kind)
    (λ letters. name_with_sign letters name.column name.after rest)

-- The value of a contract.
abbrev pub contract_number : StatementRead → ℕ
contract_number (value_statement value) = value
contract_number _ = 0

-- The name of a contract, whose number is read as the value of `otherwise` is.
abbrev pub contract_given : LineContext → List NameRead → List ℕ → NameFound → Result NameRead RuleFault
contract_given context names line name =
    read_then (formed_statement context names value_form line name.after name.tokens) (λ fault. fault)
    (λ statement. Ok (record { letters = name.letters; tokens = contract_value (contract_number statement) ∷ [] }))

-- The tokens of a definition, with those that names in it mean.
abbrev pub definition_tokens : List NameRead → ℕ → List ℕ → NameFound → List RuleToken
definition_tokens names room line name = map (λ found. found.token) (expanded names room rule_form line name.after name.tokens)

-- The name of a test or of a list of these tokens, of which there are at most 4096.
abbrev pub definition_given : LineContext → List NameRead → List ℕ → NameFound → List RuleToken → Result NameRead RuleFault
definition_given context names line name tokens =
    if nat_lt 4096 (length tokens) then Err (fault_in_line name.column TooLong) else (
    read_then (formed_statement context names (definition_form tokens) line name.after name.tokens) (λ fault. fault)
    (λ statement. Ok (record { letters = name.letters; tokens = defined_as tokens })))

-- The name that a line gives which begins with this word: `contract`, or else `define`.
abbrev pub given_by : RuleToken → LineContext → List NameRead → List ℕ → NameFound → Result NameRead RuleFault
given_by contract_word context names line name = contract_given context names line name
given_by _ context names line name = definition_given context names line name (definition_tokens names context.room line name)

-- Whether lines that begin with the token give names.
abbrev pub gives_name : RuleToken → Bool
gives_name define_word = true
gives_name contract_word = true
gives_name _ = false

-- The name that a line of these tokens gives. Names are given before the rules.
abbrev pub name_given : TextReading → List ℕ → RuleFound → List RuleFound → Result NameRead RuleFault
name_given text line first rest =
    if nat_lt 0 (length text.lines) then Err (fault_in_line first.column BadLine) else (
    read_then (name_found text.names line first.after rest) (λ fault. fault)
    (λ name. given_by first.token (context_of text) text.names line name))

-- What was read, with one more name.
abbrev pub text_with_name : TextReading → NameRead → TextReading
text_with_name text name = record text { names = text.names ++ name ∷ []; begun = true }

-- What was read, with the tokens that the names in this line add taken from those that names may still add.
abbrev pub text_with_room : TextReading → List ℕ → List RuleFound → TextReading
text_with_room text line tokens = record text { room = room_left text.names text.room line tokens }

-- What was read, with a line of these tokens, which begins at this place.
abbrev pub text_with_tokens : TextReading → TextPlace → List ℕ → List RuleFound → Result TextReading RuleFault
text_with_tokens text begin line [] = Ok text
text_with_tokens text begin line (first ∷ rest) =
    if text.closed then Err (fault_in_line first.column AfterOtherwise) else (
    if gives_name first.token
    then read_then (name_given text line first rest) (λ fault. fault) (λ name. Ok (text_with_name (text_with_room text line (first ∷ rest)) name))
    else read_then (formed_statement (context_of text) text.names rule_form line 1 (first ∷ rest)) (λ fault. fault)
    (λ statement. Ok (text_with (text_with_room text line (first ∷ rest)) begin first.column statement)))

-- What was read, with a line of rules, which begins at this place. The column of a fault is counted from 1 in the line of rules.
unfoldable pub text_with_line : TextReading → TextPlace → List ℕ → Result TextReading RuleFault
text_with_line text begin line = text_with_tokens text begin line (rule_tokens line)

-- A fault of this kind at this place.
abbrev pub fault_in_text : TextPlace → RuleFaultKind → RuleFault
fault_in_text place kind = placed_fault place.line place.column kind

-- A fault of a line of rules, with its place in the text: the place after the octets of the line that come before the fault's column. The
-- line begins at this place. A fault without a place gets none.
abbrev pub fault_of_line : TextPlace → List ℕ → RuleFault → RuleFault
fault_of_line begin line fault =
    if fault.column == 0 then fault else fault_in_text (place_past begin (take (fault.column - 1) line)) fault.kind

-- Rules, and where each of their lines begins.
pub record PlacedRulesRead : Type 0 where
  pub rules : RulesRead
  pub begins : List RulePlace

-- The rules, where the text ends. Each block must be closed.
abbrev pub placed_rules_at_end : TextReading → Result PlacedRulesRead RuleFault
placed_rules_at_end text =
    if nat_lt 0 text.blocks then Err (fault_in_text text.head Unbalanced) else
    Ok (record { rules = record { side = text.side; lines = text.lines; otherwise = text.otherwise }; begins = text.begins })

-- The rules of a text of which this was read, and these lines follow. The first of them begins at this place.
unfoldable pub placed_rules_from : TextReading → TextPlace → List (List ℕ) → Result PlacedRulesRead RuleFault
placed_rules_from text begin [] = placed_rules_at_end text
placed_rules_from text begin (line ∷ rest) =
    read_then (text_with_line text begin line) (fault_of_line begin line) (λ next. placed_rules_from next (place_past begin line) rest)

-- The rules of a text and where their lines begin, or its first fault.
unfoldable pub placed_rules_in : List ℕ → Result PlacedRulesRead RuleFault
placed_rules_in octets = placed_rules_from no_text_read (line_begin 1) (rule_lines octets)

-- The rules of a text, or its first fault.
unfoldable pub rules_in : List ℕ → Result RulesRead RuleFault
rules_in octets = read_then (placed_rules_in octets) (λ fault. fault) (λ placed_rules. Ok placed_rules.rules)
