-- The place of a line of rules is that in which it begins.
use Rattle.std.proofs.Common.{◌≡◌, ◌≤◌, ◌⊎◌, inl, inr, ℕ, zero, suc, ◌+◌, ◌-◌, ◌==◌, Bool, true, false, if◌then◌else◌, nat_lt, List, [], ◌∷◌, ◌++◌, length, Some, None, Result, Ok, Err, refl, sym, ap, subst, ◌∙◌, arith, append_assoc, append-nil, length-append}
use Rattle.std.proofs.lemmas.Bool.{eqb-true}
use Rattle.bpf_asm.specs.SourceLines.{source_lines}
use Rattle.rules_text.specs.ContinuedLines.{feed_count, line_begin, place_next, place_past, rule_lines, rule_place}
use Rattle.rules_text.specs.declared.place.TextPlace.{TextPlace}
use Rattle.rules_text.specs.Laws.{AreLinesReadAt, IsLineReadAt, PlacesAreThoseOfTheLines, column_after}
use Rattle.rules_text.specs.LineGrammar.{LineContext, StatementRead, blank_statement, side_statement, line_statement, value_statement}
use Rattle.rules_text.specs.Names.{NameRead, rule_form}
use Rattle.rules_text.specs.RulesRead.{LineRead, rule_line, block_line, end_line}
use Rattle.rules_text.specs.RuleTokens.{RuleFound, before_feed, first_cut, found_at, rule_tokens, separates, tokens_from}
use Rattle.rules_text.specs.TextOfRules.{PlacedRulesRead, TextReading, context_of, fault_in_text, fault_of_line, formed_statement, gives_name, name_given, no_text_read, placed_rules_from, read_then, text_with, text_with_line, text_with_tokens, text_with_name, text_with_room, fault_in_line}
use Rattle.rules_text.specs.declared.fault.RuleFault.{RuleFault}
use Rattle.rules_text.specs.declared.fault.RuleFaultKind.TheVariants.{AfterOtherwise, Unbalanced}
use Rattle.rules_text.specs.declared.place.RulePlace.{RulePlace}
use Rattle.rules_text.proofs.FeedCounts.{feeds_joined, lines_apart, lines_counted}
use Rattle.rules_text.proofs.ReadingSteps.{rules_begun, without_places}
use Rattle.rules_text.proofs.RuleLineCuts.{IsCutAt, cut_at}

-- ---- places

no_feed : (octet : ℕ) → (octet == 10) ≡ false → feed_count (octet ∷ []) ≡ 0
unfolding feed_count
no_feed octet e = rw e refl

one_feed : (octet : ℕ) → (octet == 10) ≡ true → feed_count (octet ∷ []) ≡ 1
unfolding feed_count
one_feed octet e = rw e refl

no_octets : feed_count [] ≡ 0
unfolding feed_count
no_octets = refl

-- Octets that are whole source lines.
abbrev AreWhole : List ℕ → Type 0
AreWhole octets = (octets ≡ []) ⊎ ((front : List ℕ) × (octets ≡ front ++ 10 ∷ []))

-- The place after these octets: the source lines before its own, and what stands before it in its own.
record IsPlaceAfter (passed : List ℕ) (place : TextPlace) : Type 0 where
  pub before : List ℕ
  pub begun : List ℕ
  pub parts : passed ≡ before ++ begun
  pub are_whole : AreWhole before
  pub one_line : feed_count begun ≡ 0
  pub line : place.line ≡ feed_count before + 1
  pub column : place.column ≡ length begun + 1

octet_passed : (feed : Bool) (passed : List ℕ) (place : TextPlace) (octet : ℕ) → (octet == 10) ≡ feed → IsPlaceAfter passed place
    → IsPlaceAfter (passed ++ octet ∷ []) (if feed then line_begin (place.line + 1) else record place { column = place.column + 1 })
octet_passed true passed place octet e is =
    let one = one_feed octet e in
    let is_feed : octet ≡ 10 = eqb-true octet 10 e in
    let all : feed_count passed ≡ feed_count is.before + feed_count is.begun = ap feed_count is.parts ∙ feeds_joined is.before is.begun in
    let more = feeds_joined passed (octet ∷ []) in
    record {
      before = passed ++ octet ∷ [];
      begun = [];
      parts = sym (append-nil (passed ++ octet ∷ []));
      are_whole = inr (passed, ap (λ (o : ℕ). passed ++ o ∷ []) is_feed);
      one_line = no_octets;
      line = omega (arith, one, all, more, is.line, is.one_line);
      column = refl;
    }
octet_passed false passed place octet e is =
    let none = no_feed octet e in
    let more = feeds_joined is.begun (octet ∷ []) in
    record {
      before = is.before;
      begun = is.begun ++ octet ∷ [];
      parts = ap (λ (front : List ℕ). front ++ octet ∷ []) is.parts ∙ append_assoc is.before is.begun (octet ∷ []);
      are_whole = is.are_whole;
      one_line = omega (arith, none, more, is.one_line);
      line = is.line;
      column = omega (arith, is.column, length-append is.begun (octet ∷ []));
    }

octets_passed : (line passed : List ℕ) (place : TextPlace) → IsPlaceAfter passed place → IsPlaceAfter (passed ++ line) (place_past place line)
unfolding place_past
octets_passed [] passed place is = subst (λ (octets : List ℕ). IsPlaceAfter octets place) (sym (append-nil passed)) is
octets_passed (octet ∷ line) passed place is =
    subst (λ (octets : List ℕ). IsPlaceAfter octets (place_past (place_next place octet) line)) (append_assoc passed (octet ∷ []) line)
    (octets_passed line (passed ++ octet ∷ []) (place_next place octet) (octet_passed (octet == 10) passed place octet refl is))

nothing_passed : IsPlaceAfter [] (line_begin 1)
unfolding feed_count
nothing_passed = record { before = []; begun = []; parts = refl; are_whole = inl refl; one_line = refl; line = refl; column = refl }

-- Whole source lines aren't cut from what follows them.
apart_by : (before rest : List ℕ) → AreWhole before → source_lines (before ++ rest) ≡ source_lines before ++ source_lines rest
unfolding source_lines
apart_by before rest (inl none) = rw none refl
apart_by before rest (inr (front, is)) = rw is (ap source_lines (append_assoc front (10 ∷ []) rest) ∙ lines_apart front rest)

counted_by : (before : List ℕ) → AreWhole before → length (source_lines before) ≡ feed_count before
unfolding source_lines feed_count
counted_by before (inl none) = rw none refl
counted_by before (inr (front, is)) =
    let joined = feeds_joined front (10 ∷ []) in
    let one = one_feed 10 refl in
    rw is (omega (arith, lines_counted front, joined, one))

-- Tokens are from this column on.
columns_from : (column passed : ℕ) (octets : List ℕ) (first : RuleFound) (more : List RuleFound) → tokens_from column passed octets ≡ first ∷ more → column ≤ first.column
unfolding tokens_from
columns_from column passed [] first more e = cc
columns_from column (suc passed) (octet ∷ rest) first more e = let later = columns_from (column + 1) passed rest first more e in omega (arith, later)
columns_from column zero (octet ∷ rest) first more e =
    by (separates octet rest) (octet == 35) e (λ f. columns_from (column + 1) zero rest first more f) (λ f. columns_from (column + 1) (before_feed rest) rest first more f)
  where
    by : (blank comment : Bool)
        → (if blank then tokens_from (column + 1) zero rest else (
        if comment then tokens_from (column + 1) (before_feed rest) rest else (
        (found_at column (first_cut (octet ∷ rest)) ∷ tokens_from (column + 1) ((first_cut (octet ∷ rest)).size - 1) rest))))
        ≡ first ∷ more
        → (tokens_from (column + 1) zero rest ≡ first ∷ more → column + 1 ≤ first.column)
        → (tokens_from (column + 1) (before_feed rest) rest ≡ first ∷ more → column + 1 ≤ first.column)
        → column ≤ first.column
    by true comment e after_blank after_comment = let later = after_blank e in omega (arith, later)
    by false true e after_blank after_comment = let later = after_comment e in omega (arith, later)
    by false false e after_blank after_comment =
        let same : found_at column (first_cut (octet ∷ rest)) ≡ first = cc in
        let at : column ≡ first.column = ap (λ (found : RuleFound). found.column) same in
        omega (arith, at)

column_by : (first_of_line : Bool) (begun : List ℕ) (begin : TextPlace) (first : RuleFound) (more : List RuleFound) → (begin.column == 1) ≡ first_of_line
    → begin.column ≡ length begun + 1 → 1 ≤ first.column
    → (if first_of_line then None else Some (begin.column + (first.column - 1))) ≡ column_after begun (first ∷ more)
column_by true [] begin first more e column some = refl
column_by true (octet ∷ begun) begin first more e column some = let one = eqb-true begin.column 1 e in absurd (omega (arith, one, column))
column_by false [] begin first more e column some =
    let wrong : (begin.column == 1) ≡ true = ap (λ (k : ℕ). k == 1) column in
    let both : true ≡ false = sym wrong ∙ e in
    absurd (cc)
column_by false (octet ∷ begun) begin first more e column some =
    let same : begin.column + (first.column - 1) ≡ length (octet ∷ begun) + first.column = omega (arith, column, some) in
    ap (λ (k : ℕ). Some k) same

module _ (octets : List ℕ) where
  statement_more : (begins : List RulePlace) (lines : List LineRead) (place : RulePlace) (statement : LineRead) → AreLinesReadAt octets begins lines → IsLineReadAt octets place statement
      → AreLinesReadAt octets (begins ++ place ∷ []) (lines ++ statement ∷ [])
  statement_more [] [] place statement are is = (is, tt)
  statement_more (n ∷ begins) (l ∷ lines) place statement are is = (are.0, statement_more begins lines place statement are.1 is)
  statement_more [] (l ∷ lines) place statement are is = absurd are
  statement_more (n ∷ begins) [] place statement are is = absurd are

  abbrev Holds : TextReading → Type 0
  Holds text = AreLinesReadAt octets text.begins text.lines

  by_statement : (text next : TextReading) (begin : TextPlace) (column : ℕ) (statement : StatementRead) → text_with text begin column statement ≡ next → Holds text
      → ((l : LineRead) → statement ≡ line_statement l → IsLineReadAt octets (rule_place begin column) l) → Holds next
  by_statement text next begin column blank_statement e held is = subst Holds e held
  by_statement text next begin column (side_statement side) e held is = subst Holds e held
  by_statement text next begin column (value_statement value) e held is = subst Holds e held
  by_statement text next begin column (line_statement (rule_line test value)) e held is =
      subst Holds e (statement_more text.begins text.lines (rule_place begin column) (rule_line test value) held (is (rule_line test value) refl))
  by_statement text next begin column (line_statement (block_line test)) e held is =
      subst Holds e (statement_more text.begins text.lines (rule_place begin column) (block_line test) held (is (block_line test) refl))
  by_statement text next begin column (line_statement end_line) e held is =
      subst Holds e (statement_more text.begins text.lines (rule_place begin column) end_line held (is end_line refl))

  by_found : (text next : TextReading) (begin : TextPlace) (column room : ℕ) (found : Result StatementRead RuleFault)
      → read_then found (λ fault. fault) (λ statement. Ok (text_with (record text { room = room }) begin column statement)) ≡ Ok next → Holds text
      → ((l : LineRead) → found ≡ Ok (line_statement l) → IsLineReadAt octets (rule_place begin column) l) → Holds next
  by_found text next begin column room (Ok statement) e held is =
      let same : text_with (record text { room = room }) begin column statement ≡ next = cc in
      by_statement (record text { room = room }) next begin column statement same held (λ l f. is l (ap (λ (s : StatementRead). Ok s) f))
  by_found text next begin column room (Err fault) e held is = cc

  by_name : (text next : TextReading) (room : ℕ) (given : Result NameRead RuleFault) → read_then given (λ fault. fault) (λ name. Ok (text_with_name (record text { room = room }) name)) ≡ Ok next → Holds text → Holds next
  by_name text next room (Ok name) e held = let same : text_with_name (record text { room = room }) name ≡ next = cc in subst Holds same held
  by_name text next room (Err fault) e held = cc

  -- Each line of rules that is read of these tokens is the one that begins at this place.
  abbrev Reads : TextPlace → List ℕ → List RuleFound → Type 0
  Reads begin line tokens =
      (first : RuleFound) (rest : List RuleFound) → tokens ≡ first ∷ rest
      → (context : LineContext) (names : List NameRead) (l : LineRead) → formed_statement context names rule_form line 1 tokens ≡ Ok (line_statement l) → IsLineReadAt octets (rule_place begin first.column) l

  by_first : (closed gives : Bool) (text next : TextReading) (begin : TextPlace) (line : List ℕ) (first : RuleFound) (rest : List RuleFound)
      → (if closed then Err (fault_in_line first.column AfterOtherwise) else (
      if gives
      then read_then (name_given text line first rest) (λ fault. fault) (λ name. Ok (text_with_name (text_with_room text line (first ∷ rest)) name))
      else read_then (formed_statement (context_of text) text.names rule_form line 1 (first ∷ rest)) (λ fault. fault)
      (λ statement. Ok (text_with (text_with_room text line (first ∷ rest)) begin first.column statement)))) ≡ Ok next
      → Holds text → Reads begin line (first ∷ rest) → Holds next
  by_first true gives text next begin line first rest e held is = cc
  by_first false true text next begin line first rest e held is = by_name text next (text_with_room text line (first ∷ rest)).room (name_given text line first rest) e held
  by_first false false text next begin line first rest e held is =
      by_found text next begin first.column (text_with_room text line (first ∷ rest)).room (formed_statement (context_of text) text.names rule_form line 1 (first ∷ rest)) e held (is first rest refl (context_of text) text.names)

  by_tokens : (text next : TextReading) (begin : TextPlace) (line : List ℕ) (tokens : List RuleFound) → text_with_tokens text begin line tokens ≡ Ok next → Holds text → Reads begin line tokens → Holds next
  by_tokens text next begin line [] e held is = let same : text ≡ next = cc in subst Holds same held
  by_tokens text next begin line (first ∷ rest) e held is = by_first text.closed (gives_name first.token) text next begin line first rest e held is

  by_line : (text next : TextReading) (begin : TextPlace) (line : List ℕ) → text_with_line text begin line ≡ Ok next → Holds text → Reads begin line (rule_tokens line) → Holds next
  unfolding text_with_line
  by_line text next begin line e held is = by_tokens text next begin line (rule_tokens line) e held is

  at_end : (unclosed : Bool) (text : TextReading) (placed_rules : PlacedRulesRead)
      → (if unclosed then Err (fault_in_text text.head Unbalanced) else
      Ok (record { rules = record { side = text.side; lines = text.lines; otherwise = text.otherwise }; begins = text.begins })) ≡ Ok placed_rules
      → Holds text → AreLinesReadAt octets placed_rules.begins placed_rules.rules.lines
  at_end true text placed_rules e held = cc
  at_end false text placed_rules e held =
      let same : ◌≡◌ {A = PlacedRulesRead} (record { rules = record { side = text.side; lines = text.lines; otherwise = text.otherwise }; begins = text.begins }) placed_rules = cc in
      subst (λ (n : PlacedRulesRead). AreLinesReadAt octets n.begins n.rules.lines) same held

  -- A line of rules that begins after these octets.
  record BeginsAfter (passed rest : List ℕ) (begin : TextPlace) : Type 0 where
    pub parts : octets ≡ passed ++ rest
    pub place : IsPlaceAfter passed begin

  after_cut : (passed text line : List ℕ) (begin : TextPlace) (later : List (List ℕ)) → BeginsAfter passed text begin → (cut : IsCutAt text line later)
      → BeginsAfter (passed ++ line) cut.rest (place_past begin line)
  after_cut passed text line begin later begins cut = record {
    parts = begins.parts ∙ ap (λ (r : List ℕ). passed ++ r) cut.parts ∙ sym (append_assoc passed line cut.rest);
    place = octets_passed line passed begin begins.place;
  }

  whole : (earlier lines : List (List ℕ)) (passed rest : List ℕ) (text : TextReading) (begin : TextPlace) (placed_rules : PlacedRulesRead)
      → rule_lines octets ≡ earlier ++ lines → rule_lines rest ≡ lines → BeginsAfter passed rest begin
      → Holds text → placed_rules_from text begin lines ≡ Ok placed_rules → AreLinesReadAt octets placed_rules.begins placed_rules.rules.lines
  unfolding placed_rules_from
  whole earlier [] passed rest text begin placed_rules parts first begins held e = at_end (nat_lt 0 text.blocks) text placed_rules e held
  whole earlier (line ∷ later) passed rest text begin placed_rules parts first begins held e =
      onward (text_with_line text begin line) refl e
      (λ earlier_now passed_now rest_now next begin_now. whole earlier_now later passed_now rest_now next begin_now placed_rules)
    where
      Deep : Type 0
      Deep = (earlier_now : List (List ℕ)) (passed_now rest_now : List ℕ) (next : TextReading) (begin_now : TextPlace)
          → rule_lines octets ≡ earlier_now ++ later → rule_lines rest_now ≡ later → BeginsAfter passed_now rest_now begin_now
          → Holds next → placed_rules_from next begin_now later ≡ Ok placed_rules → AreLinesReadAt octets placed_rules.begins placed_rules.rules.lines

      is_read : Reads begin line (rule_tokens line)
      is_read token tokens same context names l statement =
          let is = begins.place in
          let some = columns_from 1 0 line token tokens same in
          record {
            before = is.before;
            begun = is.begun;
            rest = rest;
            parts = begins.parts ∙ ap (λ (front : List ℕ). front ++ rest) is.parts ∙ append_assoc is.before is.begun rest;
            lines = ap source_lines (begins.parts ∙ ap (λ (front : List ℕ). front ++ rest) is.parts ∙ append_assoc is.before is.begun rest) ∙ apart_by is.before (is.begun ++ rest) is.are_whole;
            one_line = is.one_line;
            counted = omega (arith, is.line, counted_by is.before is.are_whole);
            line = line;
            earlier = earlier;
            later = later;
            rules = parts;
            first = first;
            column = column_by (begin.column == 1) is.begun begin token tokens refl is.column some ∙ ap (column_after is.begun) (sym same);
            context = context;
            names = names;
            read_as = statement;
          }

      onward : (found : Result TextReading RuleFault) → text_with_line text begin line ≡ found
          → read_then found (fault_of_line begin line) (λ next. placed_rules_from next (place_past begin line) later) ≡ Ok placed_rules
          → Deep → AreLinesReadAt octets placed_rules.begins placed_rules.rules.lines
      onward (Ok next) is read go =
          let cut = cut_at rest line later first in
          go (earlier ++ line ∷ []) (passed ++ line) cut.rest next (place_past begin line)
          (parts ∙ sym (append_assoc earlier (line ∷ []) later)) cut.goes_on (after_cut passed rest line begin later begins cut)
          (by_line text next begin line is held is_read) read
      onward (Err fault) is read go = cc

none_before : (octets : List ℕ) → BeginsAfter octets [] octets (line_begin 1)
none_before octets = record { parts = refl; place = nothing_passed }

-- For every text.
pub statement_numbers : PlacesAreThoseOfTheLines
statement_numbers octets placed_rules e = record {
  rules = without_places octets placed_rules e;
  places = whole octets [] (rule_lines octets) [] octets no_text_read (line_begin 1) placed_rules refl refl (none_before octets) tt (sym (rules_begun octets) ∙ e);
}
