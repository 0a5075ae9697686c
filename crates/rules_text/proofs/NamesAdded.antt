-- What names add to a line.
use Rattle.std.proofs.Common.{◌≡◌, ℕ, ◌+◌, ◌-◌, ◌≤◌, nat_lt, Bool, true, false, if◌then◌else◌, List, [], ◌∷◌, ◌++◌, length, Option, Some, None, Result, Ok, Err, refl, sym, ap, ◌∙◌, arith}
use Rattle.std.proofs.lemmas.Bool.{le-ltb, ltb-false}
use Rattle.rules_text.specs.LineGrammar.{LineContext, LineStep, Reading, StatementRead, may_be_name, read_token}
use Rattle.rules_text.specs.NameLaws.{LinesAddWhatNamesMean, RoomIsNoLimitWithin, tokens_added, tokens_meant, tokens_of_word}
use Rattle.rules_text.specs.Names.{FormRead, NameRead, admitted, all_at, expanded, form_start, letters_of, meant, name_meaning, read_for, room_left, within_room}
use Rattle.rules_text.specs.RuleTokens.{RuleFound, RuleToken, no_room}
use Rattle.rules_text.specs.TextOfRules.{read_then, statement_from}
use Rattle.rules_text.specs.declared.fault.RuleFault.{RuleFault}
use Rattle.rules_text.specs.declared.fault.RuleFaultKind.{RuleFaultKind}

-- A name that has room means all that it means.
has_room : (is_word : Bool) (meaning : Option (List RuleToken)) (room : ℕ) → length (tokens_of_word is_word meaning) ≤ room
    → (if is_word then within_room room meaning else []) ≡ tokens_of_word is_word meaning
has_room false meaning room h = refl
has_room true None room h = refl
has_room true (Some tokens) room h = rw (le-ltb room (length tokens) h) refl

meant_whole : (names : List NameRead) (room : ℕ) (line : List ℕ) (found : RuleFound) → length (tokens_meant names line found) ≤ room
    → meant names room line found ≡ tokens_meant names line found
meant_whole names room line found h = has_room (may_be_name found.token) (name_meaning names (letters_of line found)) room h

same_tokens : (names : List NameRead) (room other : ℕ) (form : FormRead) (line : List ℕ) (column : ℕ) (tokens : List RuleFound)
    → tokens_added names line tokens ≤ room → tokens_added names line tokens ≤ other
    → expanded names room form line column tokens ≡ expanded names other form line column tokens
unfolding expanded tokens_added
same_tokens names room other form line column [] h g = refl
same_tokens names room other form line column (found ∷ rest) h g =
    let one = meant_whole names room line found (omega (arith, h)) in
    let two = meant_whole names other line found (omega (arith, g)) in
    let size = length (tokens_meant names line found) in
    let deep = same_tokens names (room - size) (other - size) form line found.after rest (omega (arith, h)) (omega (arith, g)) in
    ap (λ (t : List RuleToken). all_at found.column found.after (read_for form found.token t) ++ expanded names (room - length t) form line found.after rest) one
    ∙ ap (λ (t : List RuleFound). all_at found.column found.after (read_for form found.token (tokens_meant names line found)) ++ t) deep
    ∙ sym (ap (λ (t : List RuleToken). all_at found.column found.after (read_for form found.token t) ++ expanded names (other - length t) form line found.after rest) two)

-- For every line.
pub no_limit_within : RoomIsNoLimitWithin
no_limit_within = same_tokens

module _ (context : LineContext) (column after : ℕ) (statement : StatementRead) where
  ok_by : {G : Type 0} (read : LineStep) (fault : RuleFaultKind → RuleFault) (onward : Reading → Result StatementRead RuleFault)
      → read_then read fault onward ≡ Ok statement → ((next : Reading) → onward next ≡ Ok statement → G) → G
  ok_by (Ok next) fault onward e deep = deep next e
  ok_by (Err kind) fault onward e deep = absurd (cc)

  -- After tokens without a fault the rest is read.
  placed_ok : {G : Type 0} (reading : Reading) (before : ℕ) (token : RuleToken) (tokens : List RuleToken) (rest : List RuleFound)
      → statement_from context reading before (all_at column after (token ∷ tokens) ++ rest) ≡ Ok statement
      → ((next : Reading) → statement_from context next after rest ≡ Ok statement → G) → G
  unfolding statement_from
  placed_ok reading before token [] rest e deep = ok_by (read_token context column reading token) _ _ e deep
  placed_ok reading before token (second ∷ tokens) rest e deep =
      ok_by (read_token context column reading token) _ _ e (λ next f. placed_ok next after second tokens rest f deep)

  for_ok : {G : Type 0} (reading : Reading) (before : ℕ) (form : FormRead) (token : RuleToken) (tokens : List RuleToken) (rest : List RuleFound)
      → statement_from context reading before (all_at column after (read_for form token tokens) ++ rest) ≡ Ok statement
      → ((next : Reading) → statement_from context next after rest ≡ Ok statement → G) → G
  for_ok reading before form token [] rest e deep = placed_ok reading before (admitted form token) [] rest e deep
  for_ok reading before form token (first ∷ tokens) rest e deep = placed_ok reading before first tokens rest e deep

  -- A name without room is a fault.
  roomless : {G : Type 0} (reading : Reading) (before : ℕ) (rest : List RuleFound)
      → statement_from context reading before (all_at column after (no_room ∷ []) ++ rest) ≡ Ok statement → G
  unfolding statement_from
  roomless reading before rest e = absurd (cc)

module _ (context : LineContext) (names : List NameRead) (form : FormRead) (line : List ℕ) (statement : StatementRead) where
  -- What is left and what was added, after this many tokens.
  abbrev Adds : ℕ → List RuleFound → Type 0
  Adds room rest = room_left names room line rest + tokens_added names line rest ≡ room

  by_room : (reading : Reading) (before room : ℕ) (found : RuleFound) (rest : List RuleFound) (tokens : List RuleToken) (lacks : Bool) → nat_lt room (length tokens) ≡ lacks
      → statement_from context reading before (all_at found.column found.after (read_for form found.token (if lacks then no_room ∷ [] else tokens))
      ++ expanded names (room - length (if lacks then no_room ∷ [] else tokens)) form line found.after rest) ≡ Ok statement
      → ((next : Reading) (left : ℕ) → statement_from context next found.after (expanded names left form line found.after rest) ≡ Ok statement → Adds left rest)
      → room_left names (room - length (if lacks then no_room ∷ [] else tokens)) line rest + (length tokens + tokens_added names line rest) ≡ room
  by_room reading before room found rest tokens true is e deep = roomless context found.column found.after statement reading before _ e
  by_room reading before room found rest tokens false is e deep =
      let fits : length tokens ≤ room = ltb-false room (length tokens) is in
      let more = for_ok context found.column found.after statement reading before form found.token tokens _ e (λ next f. deep next (room - length tokens) f) in
      omega (arith, fits, more)

  by_word : (reading : Reading) (before room : ℕ) (found : RuleFound) (rest : List RuleFound) (is_word : Bool) (meaning : Option (List RuleToken))
      → statement_from context reading before (all_at found.column found.after (read_for form found.token (if is_word then within_room room meaning else []))
      ++ expanded names (room - length (if is_word then within_room room meaning else [])) form line found.after rest) ≡ Ok statement
      → ((next : Reading) (left : ℕ) → statement_from context next found.after (expanded names left form line found.after rest) ≡ Ok statement → Adds left rest)
      → room_left names (room - length (if is_word then within_room room meaning else [])) line rest + (length (tokens_of_word is_word meaning) + tokens_added names line rest) ≡ room
  by_word reading before room found rest false meaning e deep =
      let more = for_ok context found.column found.after statement reading before form found.token [] _ e (λ next f. deep next (room - 0) f) in
      omega (arith, more)
  by_word reading before room found rest true None e deep =
      let more = for_ok context found.column found.after statement reading before form found.token [] _ e (λ next f. deep next (room - 0) f) in
      omega (arith, more)
  by_word reading before room found rest true (Some tokens) e deep = by_room reading before room found rest tokens (nat_lt room (length tokens)) refl e deep

  adds : (reading : Reading) (before room : ℕ) (tokens : List RuleFound) → statement_from context reading before (expanded names room form line before tokens) ≡ Ok statement → Adds room tokens
  unfolding expanded room_left tokens_added
  adds reading before room [] e = omega arith
  adds reading before room (found ∷ rest) e =
      by_word reading before room found rest (may_be_name found.token) (name_meaning names (letters_of line found)) e
      (λ next left f. adds next found.after left rest f)

-- For every line.
pub lines_add : LinesAddWhatNamesMean
lines_add context names form line column tokens statement e = adds context names form line statement (form_start form) column context.room tokens e
