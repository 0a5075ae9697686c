-- A line read token by token, and a text line by line.
use Rattle.std.proofs.Common.{◌≡◌, inl, inr, IsErrAnd, IfErr, IfOk, ℕ, Bool, true, false, if◌then◌else◌, List, [], ◌∷◌, Result, Ok, Err, refl, sym, ap, ◌∙◌, subst}
use Rattle.rules_text.specs.ContinuedLines.{line_begin, place_past, rule_lines}
use Rattle.rules_text.specs.declared.place.TextPlace.{TextPlace}
use Rattle.rules_text.specs.LineGrammar.{LineContext, Reading, StatementRead, read_token, statement_at_end}
use Rattle.rules_text.specs.Names.{NameRead, rule_form}
use Rattle.rules_text.specs.RulesInMemory.{placed_rules_read}
use Rattle.rules_text.specs.RuleTokens.{RuleFound, rule_tokens}
use Rattle.rules_text.specs.TextFaults.{IsFaultOf}
use Rattle.rules_text.specs.TextOfRules.{PlacedRulesRead, TextReading, context_of, fault_column, fault_of_line, formed_statement, gives_name, name_given, no_text_read, placed_fault, placed_rules_at_end, placed_rules_from, placed_rules_in, read_then, rules_in, statement_from, text_with, text_with_line, text_with_name, text_with_room, text_with_tokens, fault_in_line}
use Rattle.rules_text.specs.declared.fault.RuleFault.{RuleFault}
use Rattle.rules_text.specs.declared.fault.RuleFaultKind.{RuleFaultKind}
use Rattle.rules_text.specs.declared.fault.RuleFaultKind.TheVariants.{AfterOtherwise, NoMemory}
use Rattle.rules_text.specs.declared.line_reader.Statement.{Statement}
use Rattle.rules_text.specs.declared.reader.PlacedRules.{PlacedRules}
use Rattle.rules_text.specs.inner.SeenFaults.{IsReadAs}
use Rattle.rules_text.specs.inner.SeenReading.{line_statement_seen, statement_found}

-- One more token.
pub statement_more : (context : LineContext) (column : ℕ) (reading next : Reading) (found : RuleFound) (rest : List RuleFound)
    → read_token context found.column reading found.token ≡ Ok next
    → statement_from context reading column (found ∷ rest) ≡ statement_from context next found.after rest
unfolding statement_from
statement_more context column reading next found rest e = rw e refl

-- A token that is a fault.
pub statement_fault : (context : LineContext) (column : ℕ) (reading : Reading) (found : RuleFound) (rest : List RuleFound) (kind : RuleFaultKind)
    → read_token context found.column reading found.token ≡ Err kind
    → statement_from context reading column (found ∷ rest) ≡ Err (fault_in_line (fault_column reading kind found.column) kind)
unfolding statement_from
statement_fault context column reading found rest kind e = rw e refl

-- The end of a line that may end here.
pub statement_end : (context : LineContext) (column : ℕ) (reading : Reading) (statement : StatementRead)
    → statement_at_end reading.awaited reading.statement ≡ Ok statement → statement_from context reading column [] ≡ Ok statement
unfolding statement_from
statement_end context column reading statement e = rw e refl

-- One more line.
pub rules_more : (text next : TextReading) (begin : TextPlace) (line : List ℕ) (rest : List (List ℕ))
    → text_with_line text begin line ≡ Ok next → placed_rules_from text begin (line ∷ rest) ≡ placed_rules_from next (place_past begin line) rest
unfolding placed_rules_from
rules_more text next begin line rest e = rw e refl

-- A line with a fault.
pub rules_fault : (text : TextReading) (begin : TextPlace) (line : List ℕ) (rest : List (List ℕ)) (fault : RuleFault)
    → text_with_line text begin line ≡ Err fault → placed_rules_from text begin (line ∷ rest) ≡ Err (fault_of_line begin line fault)
unfolding placed_rules_from
rules_fault text begin line rest fault e = rw e refl

-- The end of the text.
pub rules_end : (text : TextReading) (begin : TextPlace) → placed_rules_from text begin [] ≡ placed_rules_at_end text
unfolding placed_rules_from
rules_end text begin = refl

-- A line without tokens.
pub line_empty : (text : TextReading) (begin : TextPlace) (line : List ℕ) → rule_tokens line ≡ [] → text_with_line text begin line ≡ Ok text
unfolding text_with_line
line_empty text begin line e = rw e refl

-- A line after `otherwise`.
pub line_closed : (text : TextReading) (begin : TextPlace) (line : List ℕ) (first : RuleFound) (rest : List RuleFound)
    → rule_tokens line ≡ first ∷ rest → text.closed ≡ true → text_with_line text begin line ≡ Err (fault_in_line first.column AfterOtherwise)
unfolding text_with_line
line_closed text begin line first rest e closed = rw (e, closed) refl

open_by : (closed : Bool) (fault : RuleFault) (read : Result TextReading RuleFault) → closed ≡ false → (if closed then Err fault else read) ≡ read
open_by true fault read e = cc
open_by false fault read e = refl

-- A line before `otherwise`.
line_open : (text : TextReading) (begin : TextPlace) (line : List ℕ) (first : RuleFound) (rest : List RuleFound) → text.closed ≡ false
    → text_with_tokens text begin line (first ∷ rest) ≡ (
    if gives_name first.token
    then read_then (name_given text line first rest) (λ fault. fault) (λ name. Ok (text_with_name (text_with_room text line (first ∷ rest)) name))
    else read_then (formed_statement (context_of text) text.names rule_form line 1 (first ∷ rest)) (λ fault. fault)
    (λ statement. Ok (text_with (text_with_room text line (first ∷ rest)) begin first.column statement)))
line_open text begin line first rest closed = open_by text.closed _ _ closed

-- A line with a statement.
pub line_with_statement : (text : TextReading) (begin : TextPlace) (line : List ℕ) (first : RuleFound) (rest : List RuleFound) (statement : StatementRead) (spent : TextReading)
    → text_with_room text line (rule_tokens line) ≡ spent → rule_tokens line ≡ first ∷ rest → text.closed ≡ false → gives_name first.token ≡ false
    → formed_statement (context_of text) text.names rule_form line 1 (rule_tokens line) ≡ Ok statement
    → text_with_line text begin line ≡ Ok (text_with spent begin first.column statement)
unfolding text_with_line
line_with_statement text begin line first rest statement spent spends e closed gives s =
    let room : text_with_room text line (first ∷ rest) ≡ spent = ap (text_with_room text line) (sym e) ∙ spends in
    let t : formed_statement (context_of text) text.names rule_form line 1 (first ∷ rest) ≡ Ok statement =
    ap (formed_statement (context_of text) text.names rule_form line 1) (sym e) ∙ s in
    ap (text_with_tokens text begin line) e ∙ line_open text begin line first rest closed ∙ rw (gives, t) (ap (λ (x : TextReading). Ok (text_with x begin first.column statement)) room)

-- A line with a fault.
pub line_fault : (text : TextReading) (begin : TextPlace) (line : List ℕ) (first : RuleFound) (rest : List RuleFound) (fault : RuleFault)
    → rule_tokens line ≡ first ∷ rest → text.closed ≡ false → gives_name first.token ≡ false
    → formed_statement (context_of text) text.names rule_form line 1 (rule_tokens line) ≡ Err fault
    → text_with_line text begin line ≡ Err fault
unfolding text_with_line
line_fault text begin line first rest fault e closed gives s =
    let t : formed_statement (context_of text) text.names rule_form line 1 (first ∷ rest) ≡ Err fault =
    ap (formed_statement (context_of text) text.names rule_form line 1) (sym e) ∙ s in
    rw (e, closed, gives, t) refl

-- A line that gives a name.
pub line_with_name : (text : TextReading) (begin : TextPlace) (line : List ℕ) (first : RuleFound) (rest : List RuleFound) (name : NameRead) (spent : TextReading)
    → text_with_room text line (rule_tokens line) ≡ spent → rule_tokens line ≡ first ∷ rest → text.closed ≡ false → gives_name first.token ≡ true → name_given text line first rest ≡ Ok name
    → text_with_line text begin line ≡ Ok (text_with_name spent name)
unfolding text_with_line
line_with_name text begin line first rest name spent spends e closed gives s =
    let room : text_with_room text line (first ∷ rest) ≡ spent = ap (text_with_room text line) (sym e) ∙ spends in
    ap (text_with_tokens text begin line) e ∙ line_open text begin line first rest closed ∙ rw (gives, s) (ap (λ (x : TextReading). Ok (text_with_name x name)) room)

-- A line that gives a name with a fault.
pub line_name_fault : (text : TextReading) (begin : TextPlace) (line : List ℕ) (first : RuleFound) (rest : List RuleFound) (fault : RuleFault)
    → rule_tokens line ≡ first ∷ rest → text.closed ≡ false → gives_name first.token ≡ true → name_given text line first rest ≡ Err fault
    → text_with_line text begin line ≡ Err fault
unfolding text_with_line
line_name_fault text begin line first rest fault e closed gives s = rw (e, closed, gives, s) refl

-- A fault of a part is one of the whole.
pub fault_onward : {A B : Type 0} (part : Result A RuleFault) (whole : Result B RuleFault) (fault : RuleFault)
    → (part ≡ Err fault → whole ≡ Err fault) → IsFaultOf part fault → IsFaultOf whole fault
fault_onward part whole fault on (inl e) = inl e
fault_onward part whole fault on (inr e) = inr (on e)

-- A fault of a line of rules is one of the text, with its place there.
pub fault_of_text : {A B : Type 0} (part : Result A RuleFault) (whole : Result B RuleFault) (begin : TextPlace) (line : List ℕ) (fault : RuleFault)
    → ((own : RuleFault) → part ≡ Err own → whole ≡ Err (fault_of_line begin line own)) → IsFaultOf part fault → IsFaultOf whole (fault_of_line begin line fault)
fault_of_text part whole begin line fault on (inl e) = inl (ap (fault_of_line begin line) e)
fault_of_text part whole begin line fault on (inr e) = inr (on fault e)

-- A fault that is returned at once.
pub returned_fault : {T : Type 0} (returned : Result T RuleFault) (fault : RuleFault) (P : RuleFault → Type 0)
    → IsErrAnd returned (λ other. other ≡ fault) → P fault → IfErr returned P
returned_fault (Ok value) fault P e p = tt
returned_fault (Err other) fault P e p = subst P (sym e) p

-- A fault of a part, which is returned at once, is one of the whole.
pub part_returned : {A B T : Type 0} (returned : Result T RuleFault) (fault : RuleFault) (part : Result A RuleFault) (whole : Result B RuleFault) (seen : T → B)
    → IsErrAnd returned (λ other. other ≡ fault) → ((own : RuleFault) → part ≡ Err own → whole ≡ Err own) → IsFaultOf part fault → IsReadAs returned whole seen
part_returned (Ok value) fault part whole seen e on is = absurd e
part_returned (Err other) fault part whole seen e on is = subst (IsFaultOf whole) (sym e) (fault_onward part whole fault (on fault) is)

-- The end of a line gives its statement or a fault.
pub line_finished : (returned : Result Statement RuleFault) (read : Result StatementRead RuleFault) → read ≡ statement_found returned → IsReadAs returned read line_statement_seen
line_finished (Ok statement) read e = e
line_finished (Err fault) read e = inr e

-- What is taken without a fault but that an allocation failed.
pub all_taken : {T B : Type 0} (returned : Result T RuleFault) (read : Result B RuleFault) (next : B) (A : Type 0) → (A → read ≡ Ok next)
    → IfOk returned (λ _. A) → IfErr returned (λ fault. fault ≡ placed_fault 0 0 NoMemory) → IsReadAs returned read (λ _. next)
all_taken (Ok value) read next A on ok err = on ok
all_taken (Err fault) read next A on ok err = inl err

-- The rules of a text, from its first line on.
pub rules_begun : (octets : List ℕ) → placed_rules_in octets ≡ placed_rules_from no_text_read (line_begin 1) (rule_lines octets)
unfolding placed_rules_in
rules_begun octets = refl

-- The rules at the end of the text are those of the whole text.
pub rules_at_last : (returned : Result PlacedRules RuleFault) (at_end whole : Result PlacedRulesRead RuleFault) → whole ≡ at_end
    → IfOk returned (λ placed_rules. at_end ≡ Ok (placed_rules_read placed_rules)) → IfOk returned (λ placed_rules. whole ≡ Ok (placed_rules_read placed_rules))
rules_at_last (Ok placed_rules) at_end whole e h = e ∙ h
rules_at_last (Err fault) at_end whole e h = tt

-- A fault at the end of the text is one of the whole text.
pub fault_at_last : (returned : Result PlacedRules RuleFault) (at_end whole : Result PlacedRulesRead RuleFault) → whole ≡ at_end
    → IfErr returned (λ fault. at_end ≡ Err fault) → IfErr returned (IsFaultOf whole)
fault_at_last (Ok placed_rules) at_end whole e h = tt
fault_at_last (Err fault) at_end whole e h = inr (e ∙ h)

-- The rules of a text, without the numbers of their lines.
pub without_places : (octets : List ℕ) (placed_rules : PlacedRulesRead) → placed_rules_in octets ≡ Ok placed_rules → rules_in octets ≡ Ok placed_rules.rules
unfolding rules_in
without_places octets placed_rules e = rw e refl

-- A fault of a text is one whether or not lines have places.
pub fault_without_places : (octets : List ℕ) (fault : RuleFault) → placed_rules_in octets ≡ Err fault → rules_in octets ≡ Err fault
unfolding rules_in
fault_without_places octets fault e = rw e refl
