-- Cards that are alike answer the commands between cells alike.
use Rattle.std.proofs.Common.{◌≡◌, ℕ, ◌+◌, ◌≤◌, ◌<◌, ◌^◌, Bool, true, false, if◌then◌else◌, List, [], ◌∷◌, ◌++◌, codes, length, map, Option, Some, None, nat_le, option_map, refl, sym, ap, ◌∙◌, subst, arith}
use Rattle.std.specs.Bool.{MatchBool}
use Rattle.std.specs.Option.{MatchOption}
use Rattle.std.specs.Str.{bytes_eq}
use Rattle.std.proofs.lemmas.Option.{same_Some}
use Rattle.std.proofs.lemmas.Slice.Eq.{bytes_eq-Decides}
use Rattle.card_core.specs.World.{Connection, World, connection_in}
use Rattle.gen_arena.specs.Slot.{greatest_generation}
use Rattle.line_record.specs.History.{empty_buckets, judged}
use Rattle.line_record.specs.Tally.{tally_of}
use Rattle.line_record.specs.declared.tally.Tally.{Tally}
use Rattle.text_io.specs.Words.{words_of}
use Rattle.text_script.specs.ReplyTexts.{connection_name, tally_text}
use Rattle.text_script.specs.ScriptCommands.{Command, cell, cell_of_words, command_of, wanted_contracts, connection_and_program, cut, cut_of, load, load_of, only_vc, release, release_of, reload, reload_of, reload_with, retire, retire_of, setup, setup_of, setup_with}
use Rattle.text_script.specs.ScriptWords.{program_of, with_both}
use Rattle.text_words.specs.FaultLines.{bad_line, line}
use Rattle.upc_cell.specs.declared.side.Side.{Side}
use Rattle.upc_cell.specs.declared.vc.Vc.{Vc}
use Rattle.cmd_run.proofs.alike.LinesAlike.{CardsAlike, HasNoCell, HaveOneText, line-alike, line-passes}
use Rattle.cmd_run.proofs.alike.SameConnections.{bare}
use Rattle.cmd_run.proofs.alike.ViewsAlike.{ViewsAlike}
use Rattle.cmd_run.proofs.one_script.Seen.{SeenConnection, found_at, seen, seen_connection}
use Rattle.cmd_run.proofs.one_script.SeenCells.{judged-nameless, verdict_in}
use Rattle.cmd_run.proofs.one_script.SeenConnections.{found-seen}
use Rattle.cmd_run.specs.RunText.{Card, IsLed, RefusesLine, RunSteps}
use Rattle.cmd_setups.specs.CommandsUnderTraffic.{AnswersUnderTraffic, AnswersWithCounts, CarriesFirst, CarriesNothing, CarriesOutWaiting, command_line, counted_answer, ended_journal, is_answered_plainly}
use Rattle.cmd_setups.specs.ConnectionCounts.{own_counts}
use Rattle.cmd_setups.specs.TimedLines.{WaitingCommand}
use Rattle.cmd_setups.specs.inner.CommandLaws.{under_traffic_led}

-- ---- a command that is taken is no cell

none_mapped : {X : Type 0} (command : X → Command) → ((x : X) → HasNoCell (Some (command x))) → (found : Option X) → HasNoCell (option_map command found)
none_mapped command none None = tt
none_mapped command none (Some x) = none x

both_none : {X Y : Type 0} (command : X → Y → Command) → ((x : X) (y : Y) → HasNoCell (Some (command x y))) → (one : Option X) (other : Option Y)
    → HasNoCell (with_both command one other)
both_none command none None other = tt
both_none command none (Some x) None = tt
both_none command none (Some x) (Some y) = none x y

load_none : (words : List (List ℕ)) → HasNoCell (load_of words)
load_none [] = tt
load_none (digits ∷ []) = tt
load_none (digits ∷ word ∷ words) = tt

retire_none : (words : List (List ℕ)) → HasNoCell (retire_of words)
retire_none [] = tt
retire_none (program ∷ []) = none_mapped (λ number. retire number) (λ number. tt) (program_of program)
retire_none (program ∷ word ∷ words) = tt

module _ (side : Side) where
  setup_none : (words : List (List ℕ)) → HasNoCell (setup_of side words)
  setup_none [] = tt
  setup_none (path ∷ []) = tt
  setup_none (path ∷ channel ∷ []) = tt
  setup_none (path ∷ channel ∷ program ∷ contracts) =
      both_none setup_with (λ seat wanted. tt) (connection_and_program side path channel program) (wanted_contracts contracts)

  reload_none : (words : List (List ℕ)) → HasNoCell (reload_of side words)
  reload_none [] = tt
  reload_none (path ∷ []) = tt
  reload_none (path ∷ channel ∷ []) = tt
  reload_none (path ∷ channel ∷ program ∷ []) = none_mapped reload_with (λ seat. tt) (connection_and_program side path channel program)
  reload_none (path ∷ channel ∷ program ∷ word ∷ words) = tt

  by_name : (loads retires setups reloads releases cuts : Bool) (words : List (List ℕ))
      → HasNoCell (if loads then load_of words else if retires then retire_of words else if setups then setup_of side words
      else if reloads then reload_of side words else if releases then release_of side words else if cuts then cut_of side words else None)
  by_name true retires setups reloads releases cuts words = load_none words
  by_name false true setups reloads releases cuts words = retire_none words
  by_name false false true reloads releases cuts words = setup_none words
  by_name false false false true releases cuts words = reload_none words
  by_name false false false false true cuts words = none_mapped (λ vc. release vc) (λ vc. tt) (only_vc side words)
  by_name false false false false false true words = none_mapped (λ vc. cut vc) (λ vc. tt) (only_vc side words)
  by_name false false false false false false words = tt

  no_cell_named : (name : List ℕ) (words : List (List ℕ)) (b : Bool) → bytes_eq name (codes "cell") ≡ b → is_answered_plainly (name ∷ words) ≡ true
      → HasNoCell (if b then cell_of_words words else if bytes_eq name (codes "load") then load_of words
      else if bytes_eq name (codes "retire") then retire_of words
      else if bytes_eq name (codes "setup") then setup_of side words
      else if bytes_eq name (codes "reload") then reload_of side words
      else if bytes_eq name (codes "release") then release_of side words
      else if bytes_eq name (codes "cut") then cut_of side words
      else None)
  no_cell_named name words true e taken =
      let same : name ≡ codes "cell" = (bytes_eq-Decides name (codes "cell")).0 e in
      let no : false ≡ true = subst (λ word. is_answered_plainly (word ∷ words) ≡ true) same taken in absurd (cc)
  no_cell_named name words false e taken =
      by_name (bytes_eq name (codes "load")) (bytes_eq name (codes "retire")) (bytes_eq name (codes "setup")) (bytes_eq name (codes "reload"))
      (bytes_eq name (codes "release")) (bytes_eq name (codes "cut")) words

  taken_none : (words : List (List ℕ)) → is_answered_plainly words ≡ true → HasNoCell (command_of side words)
  taken_none [] taken = absurd (cc)
  taken_none (name ∷ words) taken = no_cell_named name words (bytes_eq name (codes "cell")) refl taken

-- ---- the counts of connections

-- The counts of a connection, from its view.
abbrev shown_counts : SeenConnection → Tally
shown_counts connection = tally_of (map verdict_in (judged connection.contracts empty_buckets [] connection.history))

pub counts_alike : (one other : Card) → ViewsAlike (seen one.world) (seen other.world) → (vc : Vc)
    → option_map own_counts (connection_in one.world.connections vc) ≡ option_map own_counts (connection_in other.world.connections vc)
counts_alike one other views vc =
    sym (shown one) ∙ ap (option_map shown_counts) (views.connections.found vc) ∙ shown other
  where
    own : (card : Card) (connection : Connection) → shown_counts (bare (seen_connection card.world.loaded connection)) ≡ own_counts connection
    own card connection = ap tally_of (judged-nameless connection.contracts empty_buckets [] connection.history)

    each : (card : Card) (found : Option Connection)
        → option_map shown_counts (option_map bare (option_map (seen_connection card.world.loaded) found)) ≡ option_map own_counts found
    each card None = refl
    each card (Some connection) = ap (λ (tally : Tally). Some tally) (own card connection)

    shown : (card : Card) → option_map shown_counts (option_map bare (found_at (seen card.world).connections vc))
        ≡ option_map own_counts (connection_in card.world.connections vc)
    shown card =
        ap (λ (o : Option SeenConnection). option_map shown_counts (option_map bare o)) (found-seen card.world.loaded card.world.connections vc)
        ∙ each card (connection_in card.world.connections vc)

-- ---- a command

counted_same : (side : Side) (one other : World) (ended : List ℕ × Vc) (found found' : Option Connection) (given given' : List ℕ) → one.shape.side ≡ other.shape.side
    → option_map own_counts found ≡ option_map own_counts found' → (found ≡ None → given ≡ given')
    → counted_answer one ended found given ≡ counted_answer other ended found' given'
counted_same side one other ended None None given given' sides same texts = texts refl
counted_same side one other ended None (Some connection) given given' sides same texts = absurd (cc)
counted_same side one other ended (Some connection) None given given' sides same texts = absurd (cc)
counted_same side one other ended (Some connection) (Some another) given given' sides same texts =
    let counts : own_counts connection ≡ own_counts another = same_Some (own_counts connection) (own_counts another) same in
    λ i. line (ended.0 ++ (connection_name (sides i) ended.1 ++ tally_text (counts i)))

-- Both answers are equal, and the cards after them are alike.
abbrev pub AnsweredAlike : ℕ → ℕ → List ℕ → List ℕ → Card → Card → Type 0
AnsweredAlike met most one other after after' = (one ≡ other) × CardsAlike (met + 1) (most + 1) after after'

module _ (met most : ℕ) (few : met < greatest_generation) (unworn : most < 2 ^ 62) (before before' : Card) (cards : CardsAlike met most before before')
    (content one other : List ℕ) (after after' : Card) (led : IsLed after) (led' : IsLed after') where
  sides : before.world.shape.side ≡ before'.world.shape.side
  sides = λ i. (cards.views.rest i).shape.side

  abbrev found_command : Option Command
  found_command = command_of before.world.shape.side (words_of content)

  refused_alike : RefusesLine bad_line before one after → RefusesLine bad_line before' other after' → AnsweredAlike met most one other after after'
  refused_alike p q =
      let stay : CardsAlike (met + 1) (most + 1) before before' = record {
        first = line-passes met most before cards.first;
        second = line-passes met most before' cards.second;
        views = cards.views;
      } in (
        p.0 ∙ sym q.0,
        subst (λ (card : Card). CardsAlike (met + 1) (most + 1) card after') (sym p.1) (subst (λ (card : Card). CardsAlike (met + 1) (most + 1) before card) (sym q.1) stay),
      )

  plain_alike : (HaveOneText (seen before.world) found_command one other → one ≡ other) → (taken : Bool) → is_answered_plainly (words_of content) ≡ taken
      → MatchBool taken (RunSteps (Some before) content one (Some (Some after))) (RefusesLine bad_line before one after)
      → MatchBool taken (RunSteps (Some before') content other (Some (Some after'))) (RefusesLine bad_line before' other after')
      → AnsweredAlike met most one other after after'
  plain_alike texts true e p q =
      let done = line-alike met most few unworn before before' after after' cards led led' content one other
      (taken_none before.world.shape.side (words_of content) e) p q in
      (texts done.0, done.1)
  plain_alike texts false e p q = refused_alike p q

  counted_alike : (ended : List ℕ × Vc) → HasNoCell found_command
      → ((given given' : List ℕ) → HaveOneText (seen before.world) found_command given given' → found_at (seen before.world).connections ended.1 ≡ None → given ≡ given')
      → AnswersWithCounts before content ended one after → AnswersWithCounts before' content ended other after' → AnsweredAlike met most one other after after'
  counted_alike ended none texts p q =
      let done = line-alike met most few unworn before before' after after' cards led led' content p.given q.given none p.steps q.steps in
      let missing : connection_in before.world.connections ended.1 ≡ None → p.given ≡ q.given =
      λ e. texts p.given q.given done.0 (found-seen before.world.loaded before.world.connections ended.1 ∙ ap (option_map (seen_connection before.world.loaded)) e) in
      let same = counted_same before.world.shape.side before.world before'.world ended (connection_in before.world.connections ended.1)
      (connection_in before'.world.connections ended.1) p.given q.given sides (counts_alike before before' cards.views ended.1) missing in
      (p.counted ∙ same ∙ sym q.counted, done.1)

  abbrev Answers : Card → List ℕ → Card → Option Command → Type 0
  Answers card text next found = MatchOption (ended_journal found)
      (MatchBool (is_answered_plainly (words_of content)) (RunSteps (Some card) content text (Some (Some next))) (RefusesLine bad_line card text next))
      (λ ended. AnswersWithCounts card content ended text next)

  by_command : (found : Option Command) → found_command ≡ found → Answers before one after found → Answers before' other after' found
      → AnsweredAlike met most one other after after'
  by_command None e p q = plain_alike (λ texts. subst (λ (f : Option Command). HaveOneText (seen before.world) f one other) e texts) (is_answered_plainly (words_of content)) refl p q
  by_command (Some (load digits)) e p q = plain_alike (λ texts. subst (λ (f : Option Command). HaveOneText (seen before.world) f one other) e texts) (is_answered_plainly (words_of content)) refl p q
  by_command (Some (retire number)) e p q = plain_alike (λ texts. subst (λ (f : Option Command). HaveOneText (seen before.world) f one other) e texts) (is_answered_plainly (words_of content)) refl p q
  by_command (Some (setup vc number wanted)) e p q = plain_alike (λ texts. subst (λ (f : Option Command). HaveOneText (seen before.world) f one other) e texts) (is_answered_plainly (words_of content)) refl p q
  by_command (Some (reload vc number)) e p q = plain_alike (λ texts. subst (λ (f : Option Command). HaveOneText (seen before.world) f one other) e texts) (is_answered_plainly (words_of content)) refl p q
  by_command (Some (cell moment digits)) e p q = plain_alike (λ texts. subst (λ (f : Option Command). HaveOneText (seen before.world) f one other) e texts) (is_answered_plainly (words_of content)) refl p q
  by_command (Some (release vc)) e p q =
      counted_alike (codes "released ", vc) (subst HasNoCell (sym e) tt)
      (λ given given' texts. subst (λ (f : Option Command). HaveOneText (seen before.world) f given given') e texts) p q
  by_command (Some (cut vc)) e p q =
      counted_alike (codes "cut ", vc) (subst HasNoCell (sym e) tt)
      (λ given given' texts. subst (λ (f : Option Command). HaveOneText (seen before.world) f given given') e texts) p q

  pub command_alike : AnswersUnderTraffic before content one after → AnswersUnderTraffic before' content other after' → AnsweredAlike met most one other after after'
  command_alike p q =
      by_command found_command refl p
      (subst (λ (side : Side). Answers before' other after' (command_of side (words_of content))) (sym sides) q)

-- ---- all commands whose moment has come

-- After as many lines as were carried out, and with as many left.
pub record CarriedAlike (lines counts : ℕ) (one other : List ℕ) (after after' : Card) (left left' : List WaitingCommand) : Type 0 where
  pub texts : one ≡ other
  pub waiting : left ≡ left'
  pub met : ℕ
  pub most : ℕ
  pub cards : CardsAlike met most after after'
  pub lines_left : met + length left ≤ lines
  pub counts_left : most + length left ≤ counts

abbrev CarriesHere : WaitingCommand → List WaitingCommand → ℕ → Card → List ℕ → Card → List WaitingCommand → Bool → Type 0
CarriesHere first waiting moment before text after left due =
    MatchBool due (CarriesFirst first before text (λ next more. CarriesOutWaiting waiting moment next more after left))
    (CarriesNothing (first ∷ waiting) before text after left)

nothing_alike : (lines counts met most : ℕ) (waiting : List WaitingCommand) (before before' : Card) → CardsAlike met most before before'
    → met + length waiting ≤ lines → most + length waiting ≤ counts → (one other : List ℕ) (after after' : Card) (left left' : List WaitingCommand)
    → CarriesNothing waiting before one after left → CarriesNothing waiting before' other after' left' → CarriedAlike lines counts one other after after' left left'
nothing_alike lines counts met most waiting before before' cards lines_left counts_left one other after after' left left' p q = record {
  texts = p.none ∙ sym q.none;
  waiting = p.all ∙ sym q.all;
  met = met;
  most = most;
  cards = subst (λ (card : Card). CardsAlike met most card after') (sym p.same) (subst (λ (card : Card). CardsAlike met most before card) (sym q.same) cards);
  lines_left = subst (λ (xs : List WaitingCommand). met + length xs ≤ lines) (sym p.all) lines_left;
  counts_left = subst (λ (xs : List WaitingCommand). most + length xs ≤ counts) (sym p.all) counts_left;
}

module _ (lines counts moment : ℕ) (few : lines < greatest_generation) (unworn : counts < 2 ^ 62) where
  pub carried_alike : (waiting : List WaitingCommand) (met most : ℕ) (before before' : Card) → CardsAlike met most before before' → IsLed before → IsLed before'
      → met + length waiting ≤ lines → most + length waiting ≤ counts → (one other : List ℕ) (after after' : Card) (left left' : List WaitingCommand)
      → CarriesOutWaiting waiting moment before one after left → CarriesOutWaiting waiting moment before' other after' left'
      → CarriedAlike lines counts one other after after' left left'
  carried_alike [] met most before before' cards led led' lines_left counts_left one other after after' left left' p q =
      nothing_alike lines counts met most [] before before' cards lines_left counts_left one other after after' left left' p q
  carried_alike (first ∷ waiting) met most before before' cards led led' lines_left counts_left one other after after' left left' p q =
      by (λ next next' here led_next led_next' lines_after counts_after more more' a b.
      carried_alike waiting (met + 1) (most + 1) next next' here led_next led_next' lines_after counts_after more more' after after' left left' a b)
      (nat_le first.moment moment) p q
    where
      Later : Type 0
      Later = (next next' : Card) → CardsAlike (met + 1) (most + 1) next next' → IsLed next → IsLed next' → met + 1 + length waiting ≤ lines → most + 1 + length waiting ≤ counts
          → (more more' : List ℕ) → CarriesOutWaiting waiting moment next more after left → CarriesOutWaiting waiting moment next' more' after' left'
          → CarriedAlike lines counts more more' after after' left left'

      by : Later → (due : Bool) → CarriesHere first waiting moment before one after left due → CarriesHere first waiting moment before' other after' left' due
          → CarriedAlike lines counts one other after after' left left'
      by later false p q = nothing_alike lines counts met most (first ∷ waiting) before before' cards lines_left counts_left one other after after' left left' p q
      by later true p q =
          let led_next = under_traffic_led before p.next first.content p.answer led p.answered in
          let led_next' = under_traffic_led before' q.next first.content q.answer led' q.answered in
          let few_here : met < greatest_generation = omega (arith, few, lines_left) in
          let unworn_here : most < 2 ^ 62 = omega (arith, unworn, counts_left) in
          let done = command_alike met most few_here unworn_here before before' cards first.content p.answer q.answer p.next q.next led_next led_next' p.answered q.answered in
          let lines_after : met + 1 + length waiting ≤ lines = omega (arith, lines_left) in
          let counts_after : most + 1 + length waiting ≤ counts = omega (arith, counts_left) in
          let rest = later p.next q.next done.1 led_next led_next' lines_after counts_after p.more q.more p.later q.later in
          let answers = done.0 in
          let mores = rest.texts in
          record {
            texts = p.whole ∙ (λ i. command_line first.moment (answers i) ++ mores i) ∙ sym q.whole;
            waiting = rest.waiting;
            met = rest.met;
            most = rest.most;
            cards = rest.cards;
            lines_left = rest.lines_left;
            counts_left = rest.counts_left;
          }
