-- A line with names, read token by token.
use Rattle.std.proofs.Common.{◌≡◌, ℕ, ◌-◌, List, [], ◌∷◌, ◌++◌, length, map, Ok, Err, refl, sym, ap, ◌∙◌}
use Rattle.std.proofs.lemmas.List.{map-append}
use Rattle.rules_text.specs.LineGrammar.{LineContext, LineStep, Reading, read_token}
use Rattle.rules_text.specs.Names.{FormRead, rule_form, value_form, test_form, list_form, NameRead, admitted, all_at, ending, expanded, meant, read_for, room_after_token, room_left}
use Rattle.rules_text.specs.RuleTokens.{RuleFound, RuleToken, arrow_mark, refuse_word}
use Rattle.rules_text.specs.TextOfRules.{fault_column, read_then, statement_from, fault_in_line}
use Rattle.rules_text.specs.declared.fault.RuleFault.{RuleFault}
use Rattle.rules_text.specs.inner.TokensRead.{token_read, all_tokens_read}

-- One more token at a place.
pub tokens_more : (context : LineContext) (column : ℕ) (reading next : Reading) (token : RuleToken) (rest : List RuleToken)
    → token_read context column reading token ≡ Ok next → all_tokens_read context column reading (token ∷ rest) ≡ all_tokens_read context column next rest
tokens_more context column reading next token rest e = rw e refl

-- A token that is a fault.
pub tokens_fault : (context : LineContext) (column : ℕ) (reading : Reading) (token : RuleToken) (rest : List RuleToken) (fault : RuleFault)
    → token_read context column reading token ≡ Err fault → all_tokens_read context column reading (token ∷ rest) ≡ Err fault
tokens_fault context column reading token rest fault e = rw e refl

-- No more tokens.
pub tokens_end : (context : LineContext) (column : ℕ) (reading : Reading) → all_tokens_read context column reading [] ≡ Ok reading
tokens_end context column reading = refl

-- What is left after a token.
room_same : (names : List NameRead) (room : ℕ) (line : List ℕ) (found : RuleFound) (tokens : List RuleToken) (left : ℕ)
    → tokens ≡ meant names room line found → left ≡ room - length tokens → room_after_token names room line found ≡ left
room_same names room line found tokens left same less = ap (λ (t : List RuleToken). room - length t) (sym same) ∙ sym less

-- One more token of a line whose names are counted.
pub left_more : (names : List NameRead) (room : ℕ) (line : List ℕ) (found : RuleFound) (rest : List RuleFound) (tokens : List RuleToken) (left : ℕ)
    → tokens ≡ meant names room line found → left ≡ room - length tokens → room_left names room line (found ∷ rest) ≡ room_left names left line rest
unfolding room_left
left_more names room line found rest tokens left same less =
    ap (λ (k : ℕ). room_left names k line rest) (room_same names room line found tokens left same less)

-- The end of a line whose names are counted.
pub left_end : (names : List NameRead) (room : ℕ) (line : List ℕ) → room_left names room line [] ≡ room
unfolding room_left
left_end names room line = refl

module _ (context : LineContext) (column after : ℕ) where
  abbrev place : RuleToken → RuleFound
  place token = record { token = token; column = column; after = after }

  more_by : (read : LineStep) (reading next : Reading) (tokens : List RuleToken) (rest : List RuleFound)
      → read_then (read_then read (λ kind. fault_in_line (fault_column reading kind column) kind) (λ n. Ok n)) (λ fault. fault) (λ n. all_tokens_read context column n tokens) ≡ Ok next
      → ((n : Reading) → all_tokens_read context column n tokens ≡ Ok next → statement_from context n after (map place tokens ++ rest) ≡ statement_from context next after rest)
      → read_then read (λ kind. fault_in_line (fault_column reading kind column) kind) (λ n. statement_from context n after (map place tokens ++ rest))
      ≡ statement_from context next after rest
  more_by (Ok n) reading next tokens rest e deep = deep n e
  more_by (Err kind) reading next tokens rest e deep = cc

  -- The tokens of a name in a line.
  pub placed_more : (reading next : Reading) (before : ℕ) (token : RuleToken) (tokens : List RuleToken) (rest : List RuleFound)
      → all_tokens_read context column reading (token ∷ tokens) ≡ Ok next
      → statement_from context reading before (map place (token ∷ tokens) ++ rest) ≡ statement_from context next after rest
  unfolding statement_from
  placed_more reading next before token [] rest e =
      more_by (read_token context column reading token) reading next [] rest e (λ n f. let same : n ≡ next = cc in ap (λ (r : Reading). statement_from context r after rest) same)
  placed_more reading next before token (second ∷ tokens) rest e =
      more_by (read_token context column reading token) reading next (second ∷ tokens) rest e (λ n f. placed_more n next after second tokens rest f)

  fault_by : (read : LineStep) (reading : Reading) (fault : RuleFault) (tokens : List RuleToken) (rest : List RuleFound)
      → read_then (read_then read (λ kind. fault_in_line (fault_column reading kind column) kind) (λ n. Ok n)) (λ fault. fault) (λ n. all_tokens_read context column n tokens) ≡ Err fault
      → ((n : Reading) → all_tokens_read context column n tokens ≡ Err fault → statement_from context n after (map place tokens ++ rest) ≡ Err fault)
      → read_then read (λ kind. fault_in_line (fault_column reading kind column) kind) (λ n. statement_from context n after (map place tokens ++ rest)) ≡ Err fault
  fault_by (Ok n) reading fault tokens rest e deep = deep n e
  fault_by (Err kind) reading fault tokens rest e deep = let same : fault_in_line (fault_column reading kind column) kind ≡ fault = cc in ap (λ (f : RuleFault). Err f) same

  -- A fault in the tokens of a name.
  pub placed_tokens_fault : (reading : Reading) (fault : RuleFault) (before : ℕ) (token : RuleToken) (tokens : List RuleToken) (rest : List RuleFound)
      → all_tokens_read context column reading (token ∷ tokens) ≡ Err fault
      → statement_from context reading before (map place (token ∷ tokens) ++ rest) ≡ Err fault
  unfolding statement_from
  placed_tokens_fault reading fault before token [] rest e =
      fault_by (read_token context column reading token) reading fault [] rest e (λ n f. absurd (cc))
  placed_tokens_fault reading fault before token (second ∷ tokens) rest e =
      fault_by (read_token context column reading token) reading fault (second ∷ tokens) rest e (λ n f. placed_tokens_fault n fault after second tokens rest f)

  for_more : (reading next : Reading) (before : ℕ) (form : FormRead) (token : RuleToken) (tokens : List RuleToken) (rest : List RuleFound)
      → all_tokens_read context column reading (read_for form token tokens) ≡ Ok next
      → statement_from context reading before (all_at column after (read_for form token tokens) ++ rest) ≡ statement_from context next after rest
  for_more reading next before form token [] rest e = placed_more reading next before (admitted form token) [] rest e
  for_more reading next before form token (first ∷ tokens) rest e = placed_more reading next before first tokens rest e

  for_fault : (reading : Reading) (fault : RuleFault) (before : ℕ) (form : FormRead) (token : RuleToken) (tokens : List RuleToken) (rest : List RuleFound)
      → all_tokens_read context column reading (read_for form token tokens) ≡ Err fault
      → statement_from context reading before (all_at column after (read_for form token tokens) ++ rest) ≡ Err fault
  for_fault reading fault before form token [] rest e = placed_tokens_fault reading fault before (admitted form token) [] rest e
  for_fault reading fault before form token (first ∷ tokens) rest e = placed_tokens_fault reading fault before first tokens rest e

module _ (context : LineContext) (names : List NameRead) (room : ℕ) (form : FormRead) (line : List ℕ) where
  -- One more token of a line, or what it means.
  pub found_more : (reading next : Reading) (before : ℕ) (found : RuleFound) (rest : List RuleFound) (tokens : List RuleToken) (left : ℕ)
      → tokens ≡ meant names room line found → left ≡ room - length tokens → all_tokens_read context found.column reading (read_for form found.token tokens) ≡ Ok next
      → statement_from context reading before (expanded names room form line before (found ∷ rest)) ≡ statement_from context next found.after (expanded names left form line found.after rest)
  unfolding expanded
  found_more reading next before found rest tokens left same less e =
      for_more context found.column found.after reading next before form found.token (meant names room line found)
      (expanded names (room_after_token names room line found) form line found.after rest)
      (ap (λ (t : List RuleToken). all_tokens_read context found.column reading (read_for form found.token t)) (sym same) ∙ e)
      ∙ ap (λ (k : ℕ). statement_from context next found.after (expanded names k form line found.after rest)) (room_same names room line found tokens left same less)

  -- A fault at a token, or in what it means.
  pub found_fault : (reading : Reading) (fault : RuleFault) (before : ℕ) (found : RuleFound) (rest : List RuleFound) (tokens : List RuleToken)
      → tokens ≡ meant names room line found → all_tokens_read context found.column reading (read_for form found.token tokens) ≡ Err fault
      → statement_from context reading before (expanded names room form line before (found ∷ rest)) ≡ Err fault
  unfolding expanded
  found_fault reading fault before found rest tokens same e =
      for_fault context found.column found.after reading fault before form found.token (meant names room line found)
      (expanded names (room_after_token names room line found) form line found.after rest)
      (ap (λ (t : List RuleToken). all_tokens_read context found.column reading (read_for form found.token t)) (sym same) ∙ e)

end_by : (context : LineContext) (form : FormRead) (reading next : Reading) (column : ℕ)
    → all_tokens_read context column reading (ending form) ≡ Ok next
    → statement_from context reading column (all_at column column (ending form)) ≡ statement_from context next column []
end_by context rule_form reading next column e = let same : reading ≡ next = cc in ap (λ (r : Reading). statement_from context r column []) same
end_by context value_form reading next column e = let same : reading ≡ next = cc in ap (λ (r : Reading). statement_from context r column []) same
end_by context test_form reading next column e = placed_more context column column reading next column arrow_mark (refuse_word ∷ []) [] e
end_by context list_form reading next column e = placed_more context column column reading next column arrow_mark (refuse_word ∷ []) [] e

-- The end of a line.
pub line_ended : (context : LineContext) (names : List NameRead) (room : ℕ) (form : FormRead) (line : List ℕ) (reading next : Reading) (column : ℕ)
    → all_tokens_read context column reading (ending form) ≡ Ok next
    → statement_from context reading column (expanded names room form line column []) ≡ statement_from context next column []
unfolding expanded
line_ended context names room form line reading next column e = end_by context form reading next column e

end_fault_by : (context : LineContext) (form : FormRead) (reading : Reading) (fault : RuleFault) (column : ℕ)
    → all_tokens_read context column reading (ending form) ≡ Err fault
    → statement_from context reading column (all_at column column (ending form)) ≡ Err fault
end_fault_by context rule_form reading fault column e = cc
end_fault_by context value_form reading fault column e = cc
end_fault_by context test_form reading fault column e = placed_tokens_fault context column column reading fault column arrow_mark (refuse_word ∷ []) [] e
end_fault_by context list_form reading fault column e = placed_tokens_fault context column column reading fault column arrow_mark (refuse_word ∷ []) [] e

-- A fault at the end of a line.
pub line_end_fault : (context : LineContext) (names : List NameRead) (room : ℕ) (form : FormRead) (line : List ℕ) (reading : Reading) (fault : RuleFault) (column : ℕ)
    → all_tokens_read context column reading (ending form) ≡ Err fault
    → statement_from context reading column (expanded names room form line column []) ≡ Err fault
unfolding expanded
line_end_fault context names room form line reading fault column e = end_fault_by context form reading fault column e

-- The tokens of a definition, with those that one more token means.
module _ (names : List NameRead) (room : ℕ) (line : List ℕ) where
  tokens_at : (column after : ℕ) (tokens : List RuleToken) → map (λ (it : RuleFound). it.token) (all_at column after tokens) ≡ tokens
  tokens_at column after [] = refl
  tokens_at column after (token ∷ tokens) = ap (λ (t : List RuleToken). token ∷ t) (tokens_at column after tokens)

  -- One more token of a definition.
  pub body_more : (before : ℕ) (found : RuleFound) (rest : List RuleFound) (tokens : List RuleToken) (left : ℕ) → tokens ≡ meant names room line found → left ≡ room - length tokens
      → map (λ (it : RuleFound). it.token) (expanded names room rule_form line before (found ∷ rest))
      ≡ read_for rule_form found.token tokens ++ map (λ (it : RuleFound). it.token) (expanded names left rule_form line found.after rest)
  unfolding expanded
  body_more before found rest tokens left same less =
      map-append (λ (it : RuleFound). it.token) (all_at found.column found.after (read_for rule_form found.token (meant names room line found)))
      (expanded names (room_after_token names room line found) rule_form line found.after rest)
      ∙ ap (λ (t : List RuleToken). t ++ map (λ (it : RuleFound). it.token) (expanded names (room_after_token names room line found) rule_form line found.after rest))
      (tokens_at found.column found.after (read_for rule_form found.token (meant names room line found)) ∙ ap (read_for rule_form found.token) (sym same))
      ∙ ap (λ (k : ℕ). read_for rule_form found.token tokens ++ map (λ (it : RuleFound). it.token) (expanded names k rule_form line found.after rest))
      (room_same names room line found tokens left same less)

  -- The end of a definition.
  pub body_end : (column : ℕ) → map (λ (it : RuleFound). it.token) (expanded names room rule_form line column []) ≡ []
  unfolding expanded
  body_end column = refl
