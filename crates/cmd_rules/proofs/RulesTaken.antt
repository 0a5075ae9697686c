-- Reading the text of rules, octet by octet.
use Rattle.std.proofs.Common.{◌≡◌, ◌≢◌, ◌⊎◌, inl, inr, ℕ, ◌+◌, ◌-◌, ◌<◌, ◌≤◌, ◌&&◌, nat_le, Bool, true, false, if◌then◌else◌, List, [], ◌∷◌, ◌++◌, drop, take, length, get_or, Option, Some, None, refl, sym, ap, subst, ◌∙◌, arith, append-nil, append_assoc, codes, length-append, length-drop, length-take, take-append-drop}
use Rattle.std.proofs.lemmas.List.{drop-append-le, drop_all, get_or_append_left, get_or_push, length_push, length-take-le, take_rest, take-append-le, take_all}
use Rattle.std.proofs.lemmas.Bool.{le-ltb, leb-false, leb-true, lt-leb, lt-ltb}
use Rattle.text_io.specs.Gathered.{gathered}
use Rattle.text_io.specs.Limits.{most_line_octets}
use Rattle.text_io.specs.Lines.{Line, line_content, line_with_feed, lines_of}
use Rattle.text_io.proofs.LinesLemmas.{NoFeed, FirstLine, lines-at_feed, lines-first, lines-of_rest}
use Rattle.cmd_rules.specs.RulesAnswers.{most_rules_octets}
use Rattle.cmd_rules.specs.WhyText.{is_cells_line, lines_after, rules_before, says_cells}
use Rattle.cmd_rules.specs.inner.RulesTaken.{AreRulesLines, FindsTextOfRules, HasRulesBefore, IsUpTo, TakesRules}

-- ---- lines

-- The line of these octets, ended by a line feed.
abbrev ended_line : List ℕ → Line
ended_line octets = record { octets = octets; ended = true }

-- The line of these octets, the last one.
abbrev last_line : List ℕ → Line
last_line octets = record { octets = octets; ended = false }

rules_next : (line : Line) (lines : List Line) → is_cells_line line ≡ false → rules_before (line ∷ lines) ≡ line_with_feed line ++ rules_before lines
rules_next line lines other = ap (λ (b : Bool). if b then [] else line_with_feed line ++ rules_before lines) other

after_next : (line : Line) (lines : List Line) → is_cells_line line ≡ false → lines_after (line ∷ lines) ≡ lines_after lines
after_next line lines other = ap (λ (b : Bool). if b then lines else lines_after lines) other

rules_none : (line : Line) (lines : List Line) → is_cells_line line ≡ true → rules_before (line ∷ lines) ≡ []
rules_none line lines cells = ap (λ (b : Bool). if b then [] else line_with_feed line ++ rules_before lines) cells

after_all : (line : Line) (lines : List Line) → is_cells_line line ≡ true → lines_after (line ∷ lines) ≡ lines
after_all line lines cells = ap (λ (b : Bool). if b then lines else lines_after lines) cells

-- ---- whole lines of rules

pub none_taken : AreRulesLines []
none_taken = record { rules = λ more. refl; cells = λ more. refl }

module _ (front line : List ℕ) (are : AreRulesLines front) (free : NoFeed line) where
  with_line : (more : List ℕ) → (front ++ (line ++ 10 ∷ [])) ++ more ≡ front ++ (line ++ 10 ∷ more)
  with_line more = append_assoc front (line ++ 10 ∷ []) more ∙ ap (λ (t : List ℕ). front ++ t) (append_assoc line (10 ∷ []) more)

  line_taken : is_cells_line (ended_line line) ≡ false → AreRulesLines (front ++ (line ++ 10 ∷ []))
  line_taken other = record {
    rules = λ more.
        ap (λ (t : List ℕ). rules_before (lines_of t)) (with_line more) ∙ are.rules (line ++ 10 ∷ more)
        ∙ ap (λ (t : List ℕ). front ++ t) (ap rules_before (lines-at_feed line more free) ∙ rules_next (ended_line line) (lines_of more) other)
        ∙ sym (append_assoc front (line ++ 10 ∷ []) (rules_before (lines_of more)));
    cells = λ more.
        ap (λ (t : List ℕ). lines_after (lines_of t)) (with_line more) ∙ are.cells (line ++ 10 ∷ more)
        ∙ ap lines_after (lines-at_feed line more free) ∙ after_next (ended_line line) (lines_of more) other;
  }

  -- The line `cells` after them.
  cells_taken : is_cells_line (ended_line line) ≡ true → (more : List ℕ) → HasRulesBefore (front ++ (line ++ 10 ∷ [])) front more
  cells_taken cells more = record {
    rules = ap (λ (t : List ℕ). rules_before (lines_of t)) (with_line more) ∙ are.rules (line ++ 10 ∷ more)
        ∙ ap (λ (t : List ℕ). front ++ t) (ap rules_before (lines-at_feed line more free) ∙ rules_none (ended_line line) (lines_of more) cells)
        ∙ append-nil front;
    cells = ap (λ (t : List ℕ). lines_after (lines_of t)) (with_line more) ∙ are.cells (line ++ 10 ∷ more)
        ∙ ap lines_after (lines-at_feed line more free) ∙ after_all (ended_line line) (lines_of more) cells;
  }

-- ---- sizes

-- A text over the limit isn't gathered.
too_many : (text : List ℕ) → most_rules_octets < length text → gathered most_rules_octets text ≡ None
too_many text over = ap (λ (b : Bool). if b then None else Some text) (lt-ltb most_rules_octets (length text) over)

-- A text within the limit is.
few_enough : (text : List ℕ) → length text ≤ most_rules_octets → gathered most_rules_octets text ≡ Some text
few_enough text small = ap (λ (b : Bool). if b then None else Some text) (le-ltb most_rules_octets (length text) small)

-- A line that is too long isn't the line `cells`.
long_line : (line : Line) → most_line_octets < length line.octets → is_cells_line line ≡ false
long_line line long = ap (λ (b : Bool). b && says_cells (line_content line)) (lt-leb (length line.octets) most_line_octets long)

-- A line feed only adds to a line.
whole_size : (line : Line) → length line.octets ≤ length (line_with_feed line)
whole_size line = by line.ended
  where
    by : (b : Bool) → length line.octets ≤ length (if b then line.octets ++ codes "\n" else line.octets)
    by true = let size = length-append line.octets (codes "\n") in omega (arith, size)
    by false = omega arith

found_text : (text octets more : List ℕ) → length text ≤ most_rules_octets → HasRulesBefore octets text more → FindsTextOfRules (Some text) octets more
found_text text octets more small has = (ap (gathered most_rules_octets) has.rules ∙ few_enough text small, has.cells)

-- What is found at the end of an input.
pub found_at_end : (text octets : List ℕ) (found : Option (List ℕ)) → HasRulesBefore octets text [] → found ≡ gathered most_rules_octets text → FindsTextOfRules found octets []
found_at_end text octets None has is = ap (gathered most_rules_octets) has.rules ∙ sym is
found_at_end text octets (Some other) has is = (ap (gathered most_rules_octets) has.rules ∙ sym is, has.cells)

-- A line without octets isn't the line `cells`.
some_octets : (line : List ℕ) → is_cells_line (last_line line) ≡ true → 0 < length line
unfolding says_cells
some_octets [] e = cc
some_octets (octet ∷ line) e = omega arith

-- ---- the state of reading

pub up_to_none : IsUpTo [] 0
up_to_none = record { within = omega arith; lines = none_taken; last = λ k lt. absurd (omega arith) }

module _ (octets : List ℕ) (start : ℕ) (up : IsUpTo octets start) where
  cut : octets ≡ take start octets ++ drop start octets
  cut = sym (take-append-drop start octets)

  with_feed : octets ++ 10 ∷ [] ≡ take start octets ++ (drop start octets ++ 10 ∷ [])
  with_feed = ap (λ (t : List ℕ). t ++ 10 ∷ []) cut ∙ append_assoc (take start octets) (drop start octets) (10 ∷ [])

  pub up_to_line : is_cells_line (ended_line (drop start octets)) ≡ false → IsUpTo (octets ++ 10 ∷ []) (length (octets ++ 10 ∷ []))
  up_to_line other = record {
    within = omega arith;
    lines = subst AreRulesLines (sym with_feed ∙ sym (take_all (length (octets ++ 10 ∷ [])) (octets ++ 10 ∷ []) (omega arith))) (line_taken (take start octets) (drop start octets) up.lines up.last other);
    last = λ k lt.
        let none : drop (length (octets ++ 10 ∷ [])) (octets ++ 10 ∷ []) ≡ [] = drop_all (length (octets ++ 10 ∷ [])) (octets ++ 10 ∷ []) (omega arith) in
        let empty : length (drop (length (octets ++ 10 ∷ [])) (octets ++ 10 ∷ [])) ≡ 0 = ap length none in
        absurd (omega (arith, empty, lt));
  }

  pub up_to_more : (octet : ℕ) → octet ≢ 10 → IsUpTo (octets ++ octet ∷ []) start
  up_to_more octet other =
      let dropped : drop start (octets ++ octet ∷ []) ≡ drop start octets ++ octet ∷ [] = drop-append-le start octets (octet ∷ []) up.within in
      record {
        within = let counted = length_push octets octet in let within = up.within in omega (arith, counted, within);
        lines = subst AreRulesLines (sym (take-append-le start octets (octet ∷ []) up.within)) up.lines;
        last = subst NoFeed (sym dropped) (free_more (drop start octets) octet up.last other);
      }
    where
      free_more : (line : List ℕ) (octet : ℕ) → NoFeed line → octet ≢ 10 → NoFeed (line ++ octet ∷ [])
      free_more line octet free other k lt = by_place (nat_le (length line) k) refl
        where
          by_place : (b : Bool) → nat_le (length line) k ≡ b → get_or (line ++ octet ∷ []) k 0 ≢ 10
          by_place true e =
              let counted = length_push line octet in
              let le = leb-true (length line) k e in
              let at_end : length line ≡ k = omega (arith, counted, lt, le) in
              subst (λ (o : ℕ). o ≢ 10) (sym (get_or_push line octet 0 k at_end)) other
          by_place false e =
              let near : k < length line = leb-false (length line) k e in
              subst (λ (o : ℕ). o ≢ 10) (sym (get_or_append_left line (octet ∷ []) 0 k near)) (free k near)

  -- What is found at the line `cells`.
  pub found_at_cells : start ≤ most_rules_octets → is_cells_line (ended_line (drop start octets)) ≡ true → (more : List ℕ) → FindsTextOfRules (Some (take start octets)) (octets ++ 10 ∷ []) more
  found_at_cells small cells more =
      let size : length (take start octets) ≤ start = let is = length-take start octets in omega (arith, is) in
      found_text (take start octets) (octets ++ 10 ∷ []) more (omega (arith, size, small))
      (subst (λ (t : List ℕ). HasRulesBefore t (take start octets) more) (sym with_feed) (cells_taken (take start octets) (drop start octets) up.lines up.last cells more))

  -- The text of the rules, if the last line is one of them and nothing follows.
  pub rules_whole : is_cells_line (last_line (drop start octets)) ≡ false → HasRulesBefore octets octets []
  rules_whole other = by_size (nat_le (length (drop start octets)) 0) refl
    where
      moved : rules_before (lines_of (octets ++ [])) ≡ take start octets ++ rules_before (lines_of (drop start octets))
      moved = ap (λ (t : List ℕ). rules_before (lines_of t)) (append-nil octets ∙ cut) ∙ up.lines.rules (drop start octets)

      after : lines_after (lines_of (octets ++ [])) ≡ lines_after (lines_of (drop start octets))
      after = ap (λ (t : List ℕ). lines_after (lines_of t)) (append-nil octets ∙ cut) ∙ up.lines.cells (drop start octets)

      none_in : (line : List ℕ) → length line ≤ 0 → line ≡ []
      none_in [] le = refl
      none_in (octet ∷ line) le = absurd (omega arith)

      by_size : (b : Bool) → nat_le (length (drop start octets)) 0 ≡ b → HasRulesBefore octets octets []
      by_size true e =
          let none : drop start octets ≡ [] = none_in (drop start octets) (leb-true (length (drop start octets)) 0 e) in record {
            rules = moved ∙ ap (λ (t : List ℕ). take start octets ++ rules_before (lines_of t)) none ∙ ap (λ (t : List ℕ). take start octets ++ t) (sym none) ∙ sym cut;
            cells = after ∙ ap (λ (t : List ℕ). lines_after (lines_of t)) none;
          }
      by_size false e =
          let one = lines-of_rest (drop start octets) (leb-false (length (drop start octets)) 0 e) up.last in record {
            rules = moved ∙ ap (λ (t : List ℕ). take start octets ++ t) (ap rules_before one ∙ rules_next (last_line (drop start octets)) [] other ∙ append-nil (drop start octets)) ∙ sym cut;
            cells = after ∙ ap lines_after one ∙ after_next (last_line (drop start octets)) [] other;
          }

  -- And if the last line is the line `cells`.
  pub rules_front : is_cells_line (last_line (drop start octets)) ≡ true → HasRulesBefore octets (take start octets) []
  rules_front cells =
      let one = lines-of_rest (drop start octets) (some_octets (drop start octets) cells) up.last in record {
        rules = ap (λ (t : List ℕ). rules_before (lines_of t)) (append-nil octets ∙ cut) ∙ up.lines.rules (drop start octets)
            ∙ ap (λ (t : List ℕ). take start octets ++ t) (ap rules_before one ∙ rules_none (last_line (drop start octets)) [] cells) ∙ append-nil (take start octets);
        cells = ap (λ (t : List ℕ). lines_after (lines_of t)) (append-nil octets ∙ cut) ∙ up.lines.cells (drop start octets)
            ∙ ap lines_after one ∙ after_all (last_line (drop start octets)) [] cells;
      }

  -- A text over the limit is one whatever follows.
  size_at_least : (more : List ℕ) → length (rules_before (lines_of (octets ++ more))) ≡ start + length (rules_before (lines_of (drop start octets ++ more)))
  size_at_least more =
      let moved : rules_before (lines_of (octets ++ more)) ≡ take start octets ++ rules_before (lines_of (drop start octets ++ more)) =
      ap (λ (t : List ℕ). rules_before (lines_of t)) (ap (λ (t : List ℕ). t ++ more) cut ∙ append_assoc (take start octets) (drop start octets) more) ∙ up.lines.rules (drop start octets ++ more) in
      ap length moved ∙ length-append (take start octets) (rules_before (lines_of (drop start octets ++ more)))
      ∙ ap (λ (n : ℕ). n + length (rules_before (lines_of (drop start octets ++ more)))) (length-take-le start octets up.within)

  pub over_lines : most_rules_octets < start → (more : List ℕ) → FindsTextOfRules None octets more
  over_lines over more = let size = size_at_least more in too_many (rules_before (lines_of (octets ++ more))) (omega (arith, over, size))

  -- So is one whose last line is too long for the line `cells`.
  pub over_long : most_rules_octets < length octets → most_line_octets < length octets - start → (more : List ℕ) → FindsTextOfRules None octets more
  over_long over long more =
      let dropped : length (drop start octets) ≡ length octets - start = length-drop start octets in
      let first = first_of (drop start octets) (omega (arith, long, dropped)) up.last in
      let other : is_cells_line first.line ≡ false = long_line first.line (let far = first.long in omega (arith, far, long, dropped)) in
      let here : rules_before (lines_of (drop start octets ++ more)) ≡ line_with_feed first.line ++ rules_before first.lines = ap rules_before first.cut ∙ rules_next first.line first.lines other in
      let sized = ap length here ∙ length-append (line_with_feed first.line) (rules_before first.lines) in
      let size = size_at_least more in
      let whole = whole_size first.line in
      let far = first.long in
      let within = up.within in
      too_many (rules_before (lines_of (octets ++ more))) (omega (arith, over, size, sized, whole, far, dropped, within))
    where
      first_of : (line : List ℕ) → 0 < length line → NoFeed line → FirstLine line (line ++ more)
      first_of [] some free = absurd (omega arith)
      first_of (octet ∷ line) some free = lines-first octet line more free

-- ---- one octet more

pub put_line : (old new : List ℕ) (start octet next : ℕ) → IsUpTo old start → octet ≡ 10 → (octet ≡ 10 → is_cells_line (ended_line (drop start old)) ≡ false)
    → new ≡ old ++ octet ∷ [] → next ≡ length new → IsUpTo new next
put_line old new start octet next up feed other made sized =
    let is : new ≡ old ++ 10 ∷ [] = made ∙ ap (λ (o : ℕ). old ++ o ∷ []) feed in
    subst (λ (n : ℕ). IsUpTo new n) (sym sized) (subst (λ (t : List ℕ). IsUpTo t (length t)) (sym is) (up_to_line old start up (other feed)))

pub put_more : (old new : List ℕ) (start octet : ℕ) → IsUpTo old start → octet ≢ 10 → new ≡ old ++ octet ∷ [] → IsUpTo new start
put_more old new start octet up other made = subst (λ (t : List ℕ). IsUpTo t start) (sym made) (up_to_more old start up octet other)

-- ---- what was read

-- At the line `cells`.
pub takes_cells : (before after octets text : List ℕ) (start : ℕ) → IsUpTo octets start → before ≡ octets ++ 10 ∷ after → start ≤ most_rules_octets
    → is_cells_line (ended_line (drop start octets)) ≡ true → text ≡ take start octets → TakesRules (Some text) before after
takes_cells before after octets text start up came small cells is = record {
  taken = octets ++ 10 ∷ [];
  came = came ∙ sym (append_assoc octets (10 ∷ []) after);
  finds = λ more follows. subst (λ (t : List ℕ). FindsTextOfRules (Some t) (octets ++ 10 ∷ []) more) (sym is) (found_at_cells octets start up small cells more);
}

-- At the end of the input.
pub takes_end : (before octets text : List ℕ) (found : Option (List ℕ)) → HasRulesBefore octets text [] → before ≡ octets → found ≡ gathered most_rules_octets text
    → TakesRules found before []
takes_end before octets text found has came is = record {
  taken = octets;
  came = came ∙ sym (append-nil octets);
  finds = λ more follows. subst (λ (t : List ℕ). FindsTextOfRules found octets t) (sym (follows refl)) (found_at_end text octets found has is);
}

-- Over the limit.
pub takes_none : (before after octets : List ℕ) (start : ℕ) → IsUpTo octets start → before ≡ octets ++ after
    → ((most_rules_octets < start) ⊎ ((most_rules_octets < length octets) × (most_line_octets < length octets - start))) → TakesRules None before after
takes_none before after octets start up came (inl over) = record { taken = octets; came = came; finds = λ more follows. over_lines octets start up over more }
takes_none before after octets start up came (inr over) = record { taken = octets; came = came; finds = λ more follows. over_long octets start up over.0 over.1 more }

-- ---- the line that is looked at

-- The octets from a place on, as the code looks at them, are the line.
pub looked_at : (ended : Bool) (octets behind : List ℕ) (start : ℕ) (is found : Bool) → behind ≡ octets
    → is ≡ is_cells_line (record { octets = take (length behind - start) (drop start behind); ended = ended }) → is ≡ found
    → is_cells_line (record { octets = drop start octets; ended = ended }) ≡ found
looked_at ended octets behind start is found same looks e =
    ap (λ (line : List ℕ). is_cells_line (record { octets = line; ended = ended })) (sym (take_rest behind start ∙ ap (drop start) same)) ∙ sym looks ∙ e
