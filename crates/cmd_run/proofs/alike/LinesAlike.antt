-- Cards that are alike answer a line between cells alike. Only the counts of a journal that ends may differ.
use Rattle.std.proofs.Common.{◌≡◌, ℕ, ◌+◌, ◌^◌, ◌<◌, ◌==◌, Bool, true, false, if◌then◌else◌, not, List, [], length, Option, Some, None, is_none, nat_le, nat_lt, refl, sym, ap, ◌∙◌, subst}
use Rattle.std.specs.Bool.{MatchBool, ⊤}
use Rattle.std.specs.List.{list_all}
use Rattle.std.specs.Option.{MatchOption}
use Rattle.std.proofs.lemmas.Option.{same_Some}
use Rattle.upc_cell.specs.declared.vc.Vc.{Vc}
use Rattle.leaky.specs.declared.contract.Contract.{Contract}
use Rattle.leaky.specs.declared.gcra.GcraFault.{GcraFault}
use Rattle.card_core.specs.World.{is_outside}
use Rattle.card_core.specs.declared.fault.DeskFault.{DeskFault}
use Rattle.card_core.specs.declared.fault.DeskFault.TheVariants.{BadContracts, Busy, Exhausted, InUse, NoConnection, NoLine, NoProgram, Taken}
use Rattle.gen_arena.specs.Slot.{greatest_generation}
use Rattle.text_io.specs.Words.{is_silent, words_of}
use Rattle.text_words.specs.FaultLines.{bad_hex, bad_line}
use Rattle.text_words.specs.Hexadecimal.{octets_of_digits}
use Rattle.text_card.specs.CardFaults.{desk_fault, gcra_fault, no_such_program}
use Rattle.text_script.specs.Rates.{first_wanted_fault}
use Rattle.text_script.specs.ScriptCommands.{Command, cell, command_of, cut, load, release, reload, retire, setup}
use Rattle.text_script.specs.declared.script_words.Wanted.{Wanted}
use Rattle.cmd_programs.proofs.Public.{reads-once}
use Rattle.cmd_programs.specs.Program.{ProgramReading, is_program, is_refused}
use Rattle.cmd_run.specs.RunText.{Card, CommandLine, IsLed, OpensOrObeys, RunSteps}
use Rattle.cmd_run.proofs.alike.SameConnections.{Entries, HaveSame, bare, changed-same, length-same, names-same, none-same, some-same, with-same, without-same}
use Rattle.cmd_run.proofs.alike.ViewsAlike.{ViewsAlike, alike-as, connected, left-alike}
use Rattle.cmd_run.proofs.one_script.ConnectionSteps.{changed_at, fresh, seen_setup_fault, set_text, set_up}
use Rattle.cmd_run.proofs.one_script.HoldsAfter.{answered, holds-later, judged-later, left}
use Rattle.cmd_run.proofs.one_script.Numbers.{is_number}
use Rattle.cmd_run.proofs.one_script.OneAnswer.{contracts-once}
use Rattle.cmd_run.proofs.one_script.ProgramSteps.{loaded_text, retired, retired_text, seen_load_fault, seen_retire_fault, with_program}
use Rattle.cmd_run.proofs.one_script.RecordSteps.{cut_text, handed_out, released, released_text, reloaded, reloaded_text, seen_missing_fault, seen_reload_fault}
use Rattle.cmd_run.proofs.one_script.Seen.{Seen, SeenConnection, code_of, found_at, seen}
use Rattle.cmd_run.proofs.one_script.SeenLines.{AsksSeen, IsAfterLines, LineSeen, LoadsSeen, NamedSeen, ObeysSeen, ReadingSeen, ReloadsSeen, RetiresSeen, SetsUpSeen, StaysSeen, TakesSeen, line-comes}

-- The command is no cell.
abbrev pub IsNoCell : Command → Type 0
IsNoCell (cell moment digits) = ⊥
IsNoCell _ = ⊤

-- There is no command, or it is no cell.
abbrev pub HasNoCell : Option Command → Type 0
HasNoCell None = ⊤
HasNoCell (Some command) = IsNoCell command

-- The answers to this command are equal. Those to `release` and `cut` are, if there is no such connection.
abbrev pub HasOneText : Seen → Command → List ℕ → List ℕ → Type 0
HasOneText s (release vc) one other = found_at s.connections vc ≡ None → one ≡ other
HasOneText s (cut vc) one other = found_at s.connections vc ≡ None → one ≡ other
HasOneText s _ one other = one ≡ other

abbrev pub HaveOneText : Seen → Option Command → List ℕ → List ℕ → Type 0
HaveOneText s None one other = one ≡ other
HaveOneText s (Some command) one other = HasOneText s command one other

-- Equal texts are so for any command.
equal-texts : (s : Seen) (found : Option Command) (one other : List ℕ) → one ≡ other → HaveOneText s found one other
equal-texts s None one other same = same
equal-texts s (Some (load digits)) one other same = same
equal-texts s (Some (retire number)) one other same = same
equal-texts s (Some (setup vc number wanted)) one other same = same
equal-texts s (Some (reload vc number)) one other same = same
equal-texts s (Some (release vc)) one other same = λ none. same
equal-texts s (Some (cut vc)) one other same = λ none. same
equal-texts s (Some (cell moment digits)) one other same = same

-- The texts are equal, and the views after them are alike.
abbrev IsAnsweredAlike : List ℕ → List ℕ → Seen → Seen → Type 0
IsAnsweredAlike one other to to' = (one ≡ other) × ViewsAlike to to'

moved-alike : (to to' next next' : Seen) → to ≡ next → to' ≡ next' → ViewsAlike next next' → ViewsAlike to to'
moved-alike to to' next next' e e' alike =
    subst (λ (s : Seen). ViewsAlike s to') (sym e) (subst (λ (s : Seen). ViewsAlike next s) (sym e') alike)

takes-alike : (found : Option (List ℕ)) (next next' : Seen) (one other : List ℕ) (to to' : Seen) → ViewsAlike next next'
    → TakesSeen found next one to → TakesSeen found next' other to' → IsAnsweredAlike one other to to'
takes-alike found next next' one other to to' alike p q =
    (same_Some one other (sym p.0 ∙ q.0), moved-alike to to' next next' p.1 q.1 alike)

-- This view, and that with these connections in place of its own.
module _ (s : Seen) (others : Entries) (same : HaveSame s.connections others) where
  alike : ViewsAlike s (connected s others)
  alike = record { rest = refl; connections = same }

  -- A command of the desk, which both cards refuse for the same reason or not at all.
  desk-alike : (fault fault' : Option DeskFault) → fault ≡ fault' → (found : Option (List ℕ)) (next next' : Seen) (one other : List ℕ) (to to' : Seen) → ViewsAlike next next'
      → TakesSeen (answered fault found) (left fault s next) one to → TakesSeen (answered fault' found) (left fault' (connected s others) next') other to'
      → IsAnsweredAlike one other to to'
  desk-alike fault fault' e found next next' one other to to' after p q =
      let q' = subst (λ (f : Option DeskFault). TakesSeen (answered f found) (left f (connected s others) next') other to') (sym e) q in
      takes-alike (answered fault found) (left fault s next) (left fault (connected s others) next') one other to to'
      (left-alike fault s (connected s others) next next' alike after) p q'

  stays-alike : (fault one other : List ℕ) (to to' : Seen) → StaysSeen s fault one to → StaysSeen (connected s others) fault other to' → IsAnsweredAlike one other to to'
  stays-alike fault one other to to' p q = (p.0 ∙ sym q.0, moved-alike to to' s (connected s others) p.1 q.1 alike)

  reading-alike : (reading : ProgramReading) (one other : List ℕ) (to to' : Seen)
      → ReadingSeen s reading one to → ReadingSeen (connected s others) reading other to' → IsAnsweredAlike one other to to'
  reading-alike (is_program code) one other to to' p q =
      desk-alike (seen_load_fault s) (seen_load_fault s) refl (loaded_text s) (with_program s code) (with_program (connected s others) code) one other to to'
      (record { rest = refl; connections = same }) p q
  reading-alike (is_refused fault) one other to to' p q = stays-alike fault one other to to' p q

  load-alike : (octets : Option (List ℕ)) (one other : List ℕ) (to to' : Seen)
      → MatchOption octets (StaysSeen s bad_hex one to) (λ found. LoadsSeen s found one to)
      → MatchOption octets (StaysSeen (connected s others) bad_hex other to') (λ found. LoadsSeen (connected s others) found other to') → IsAnsweredAlike one other to to'
  load-alike None one other to to' p q = stays-alike bad_hex one other to to' p q
  load-alike (Some octets) one other to to' p q =
      let P : ProgramReading → Type 0 = λ reading. ReadingSeen (connected s others) reading other to' in
      reading-alike p.0 one other to to' p.2 (subst P (reads-once octets q.0 p.0 q.1 p.1) q.2)

  named-alike : (AnswersOne AnswersOther : List ℕ → Seen → Type 0) (one other : List ℕ) (to to' : Seen)
      → (AnswersOne one to → AnswersOther other to' → IsAnsweredAlike one other to to') → (b : Bool)
      → MatchBool b (AnswersOne one to) (StaysSeen s no_such_program one to)
      → MatchBool b (AnswersOther other to') (StaysSeen (connected s others) no_such_program other to') → IsAnsweredAlike one other to to'
  named-alike AnswersOne AnswersOther one other to to' alike_so true p q = alike_so p q
  named-alike AnswersOne AnswersOther one other to to' alike_so false p q = stays-alike no_such_program one other to to' p q

  retire-alike : (number : ℕ) (one other : List ℕ) (to to' : Seen)
      → RetiresSeen s number one to → RetiresSeen (connected s others) number other to' → IsAnsweredAlike one other to to'
  retire-alike number one other to to' p q =
      let named = names-same s.connections others number same in
      let fault : seen_retire_fault s number ≡ seen_retire_fault (connected s others) number =
      λ i. if not (list_all is_outside s.ports) then Some Busy
      else if is_none (code_of s.live number) then Some NoProgram
      else if named i then Some InUse
      else None in
      desk-alike (seen_retire_fault s number) (seen_retire_fault (connected s others) number) fault (retired_text number) (retired s number) (retired (connected s others) number)
      one other to to' (record { rest = refl; connections = same }) p q

  sets_up-alike : (vc : Vc) (number : ℕ) (contracts : List Contract) (one other : List ℕ) (to to' : Seen)
      → SetsUpSeen s vc number contracts one to → SetsUpSeen (connected s others) vc number contracts other to' → IsAnsweredAlike one other to to'
  sets_up-alike vc number contracts one other to to' p q =
      let found = some-same s.connections others vc same in
      let count = length-same s.connections others same in
      let fault : seen_setup_fault s vc number contracts ≡ seen_setup_fault (connected s others) vc number contracts =
      λ i. if is_none (code_of s.live number) then Some NoProgram
      else if found i then Some Taken
      else if length contracts == 0 then Some BadContracts
      else if not (nat_lt (count i) s.shape.lines) then Some NoLine
      else if nat_le (2 ^ 62) s.incarnations then Some Exhausted
      else None in
      let after : ViewsAlike (set_up s vc number contracts) (set_up (connected s others) vc number contracts) =
      record { rest = refl; connections = with-same s.connections others vc (fresh number contracts) (fresh number contracts) refl same } in
      desk-alike (seen_setup_fault s vc number contracts) (seen_setup_fault (connected s others) vc number contracts) fault (set_text s.shape.side vc)
      (set_up s vc number contracts) (set_up (connected s others) vc number contracts) one other to to' after p q

  asks-alike : (vc : Vc) (number : ℕ) (wanted : List Wanted) (one other : List ℕ) (to to' : Seen)
      → AsksSeen s vc number wanted one to → AsksSeen (connected s others) vc number wanted other to' → IsAnsweredAlike one other to to'
  asks-alike vc number wanted one other to to' p q =
      let P : List Contract → Type 0 = λ contracts. SetsUpSeen (connected s others) vc number contracts other to' in
      sets_up-alike vc number p.0 one other to to' p.2 (subst P (contracts-once wanted q.0 p.0 q.1 p.1) q.2)

  setup-alike : (vc : Vc) (number : ℕ) (wanted : List Wanted) (found : Option GcraFault) (one other : List ℕ) (to to' : Seen)
      → MatchOption found (NamedSeen s number (AsksSeen s vc number wanted) one to) (λ fault. StaysSeen s (gcra_fault fault) one to)
      → MatchOption found (NamedSeen (connected s others) number (AsksSeen (connected s others) vc number wanted) other to')
      (λ fault. StaysSeen (connected s others) (gcra_fault fault) other to') → IsAnsweredAlike one other to to'
  setup-alike vc number wanted None one other to to' p q =
      named-alike (AsksSeen s vc number wanted) (AsksSeen (connected s others) vc number wanted) one other to to'
      (asks-alike vc number wanted one other to to') (is_number s.programs number) p q
  setup-alike vc number wanted (Some fault) one other to to' p q = stays-alike (gcra_fault fault) one other to to' p q

  reload-alike : (vc : Vc) (number : ℕ) (one other : List ℕ) (to to' : Seen)
      → ReloadsSeen s vc number one to → ReloadsSeen (connected s others) vc number other to' → IsAnsweredAlike one other to to'
  reload-alike vc number one other to to' p q =
      let none = none-same s.connections others vc same in
      let fault : seen_reload_fault s vc number ≡ seen_reload_fault (connected s others) vc number =
      λ i. if is_none (code_of s.live number) then Some NoProgram
      else if none i then Some NoConnection
      else None in
      let respects : (x y : SeenConnection) → bare x ≡ bare y → bare (reloaded number x) ≡ bare (reloaded number y) =
      λ x y like i. record (like i) { program = number } in
      desk-alike (seen_reload_fault s vc number) (seen_reload_fault (connected s others) vc number) fault (reloaded_text s.shape.side vc number)
      (changed_at s vc (reloaded number)) (changed_at (connected s others) vc (reloaded number)) one other to to'
      (record { rest = refl; connections = changed-same s.connections others vc (reloaded number) respects same }) p q

  -- A journal that ends, or a connection that is missing.
  ends-alike : (vc : Vc) (found found' : Option (List ℕ)) (next next' : Seen) (one other : List ℕ) (to to' : Seen) → ViewsAlike next next'
      → TakesSeen (answered (seen_missing_fault s vc) found) (left (seen_missing_fault s vc) s next) one to
      → TakesSeen (answered (seen_missing_fault (connected s others) vc) found')
      (left (seen_missing_fault (connected s others) vc) (connected s others) next') other to'
      → (found_at s.connections vc ≡ None → one ≡ other) × ViewsAlike to to'
  ends-alike vc found found' next next' one other to to' after p q =
      let missing : seen_missing_fault s vc ≡ seen_missing_fault (connected s others) vc =
      ap (λ b. if b then Some NoConnection else None) (none-same s.connections others vc same) in
      let q' = subst (λ (f : Option DeskFault). TakesSeen (answered f found') (left f (connected s others) next') other to') (sym missing) q in (
        λ none.
            let is : seen_missing_fault s vc ≡ Some NoConnection = ap (λ o. if is_none o then Some NoConnection else None) none in
            let first : desk_fault NoConnection ≡ Some one = subst (λ (f : Option DeskFault). answered f found ≡ Some one) is p.0 in
            let second : desk_fault NoConnection ≡ Some other = subst (λ (f : Option DeskFault). answered f found' ≡ Some other) is q'.0 in
            same_Some one other (sym first ∙ second),
        moved-alike to to' (left (seen_missing_fault s vc) s next) (left (seen_missing_fault s vc) (connected s others) next') p.1 q'.1
            (left-alike (seen_missing_fault s vc) s (connected s others) next next' alike after),
      )

  obeys-alike : (command : Command) (one other : List ℕ) (to to' : Seen) → IsNoCell command
      → ObeysSeen s command one to → ObeysSeen (connected s others) command other to' → HasOneText s command one other × ViewsAlike to to'
  obeys-alike (load digits) one other to to' no_cell p q = load-alike (octets_of_digits digits) one other to to' p q
  obeys-alike (retire number) one other to to' no_cell p q =
      named-alike (RetiresSeen s number) (RetiresSeen (connected s others) number) one other to to'
      (retire-alike number one other to to') (is_number s.programs number) p q
  obeys-alike (setup vc number wanted) one other to to' no_cell p q = setup-alike vc number wanted (first_wanted_fault wanted) one other to to' p q
  obeys-alike (reload vc number) one other to to' no_cell p q =
      named-alike (ReloadsSeen s vc number) (ReloadsSeen (connected s others) vc number) one other to to'
      (reload-alike vc number one other to to') (is_number s.programs number) p q
  obeys-alike (release vc) one other to to' no_cell p q =
      ends-alike vc (released_text s vc) (released_text (connected s others) vc) (released s vc) (released (connected s others) vc) one other to to'
      (record { rest = refl; connections = without-same s.connections others vc same }) p q
  obeys-alike (cut vc) one other to to' no_cell p q =
      ends-alike vc (cut_text s vc) (cut_text (connected s others) vc) (changed_at s vc handed_out) (changed_at (connected s others) vc handed_out) one other to to'
      (record { rest = refl; connections = changed-same s.connections others vc handed_out (λ x y like. like) same }) p q
  obeys-alike (cell moment digits) one other to to' no_cell p q = absurd no_cell

  words-alike : (found : Option Command) (one other : List ℕ) (to to' : Seen) → HasNoCell found
      → MatchOption found (StaysSeen s bad_line one to) (λ command. ObeysSeen s command one to)
      → MatchOption found (StaysSeen (connected s others) bad_line other to') (λ command. ObeysSeen (connected s others) command other to')
      → HaveOneText s found one other × ViewsAlike to to'
  words-alike None one other to to' no_cell p q = stays-alike bad_line one other to to' p q
  words-alike (Some command) one other to to' no_cell p q = obeys-alike command one other to to' no_cell p q

-- After `met` lines, and with at most `most` verdicts on a line, both cards are sound, and their views are alike.
pub record CardsAlike (met most : ℕ) (one other : Card) : Type 0 where
  pub first : IsAfterLines met most one
  pub second : IsAfterLines met most other
  pub views : ViewsAlike (seen one.world) (seen other.world)

-- Nothing happens to a card for a line.
pub line-passes : (met most : ℕ) (card : Card) → IsAfterLines met most card → IsAfterLines (met + 1) (most + 1) card
line-passes met most card reached = record {
  led = reached.led;
  holds = holds-later met card.world reached.holds;
  names = reached.names;
  counted = judged-later most card.world card.world reached.counted refl;
}

-- A line between cells: its answers, and the cards after it.
module _ (met most : ℕ) (few : met < greatest_generation) (unworn : most < 2 ^ 62) (before before' after after' : Card) (cards : CardsAlike met most before before')
    (led : IsLed after) (led' : IsLed after') (content one other : List ℕ) where
  abbrev AreAnsweredAlike : Type 0
  AreAnsweredAlike = HaveOneText (seen before.world) (command_of before.world.shape.side (words_of content)) one other × CardsAlike (met + 1) (most + 1) after after'

  command-alike : HasNoCell (command_of before.world.shape.side (words_of content))
      → OpensOrObeys (Some before) (words_of content) one (Some (Some after)) → OpensOrObeys (Some before') (words_of content) other (Some (Some after'))
      → AreAnsweredAlike
  command-alike no_cell p q =
      let own : p.0 ≡ after = let e = p.2 in cc in
      let own' : q.0 ≡ after' = let e = q.2 in cc in
      let here = line-comes met most few unworn before cards.first after one (words_of content) (subst (λ (card : Card). CommandLine before (words_of content) one card) own p.1) in
      let there = line-comes met most few unworn before' cards.second after' other (words_of content) (subst (λ (card : Card). CommandLine before' (words_of content) other card) own' q.1) in
      let is = alike-as (seen before.world) (seen before'.world) cards.views in
      let answered = words-alike (seen before.world) (seen before'.world).connections cards.views.connections
      (command_of before.world.shape.side (words_of content)) one other (seen after.world) (seen after'.world) no_cell here.shown
      (subst (λ (s : Seen). LineSeen s (words_of content) other (seen after'.world)) (sym is) there.shown) in (
        answered.0,
        record {
          first = record { led = led; holds = here.holds; names = here.names; counted = here.counted };
          second = record { led = led'; holds = there.holds; names = there.names; counted = there.counted };
          views = answered.1;
        },
      )

  silent-alike : (one ≡ []) × (Some (Some after) ≡ Some (Some before)) → (other ≡ []) × (Some (Some after') ≡ Some (Some before')) → AreAnsweredAlike
  silent-alike p q =
      let own : before ≡ after = let e = p.1 in cc in
      let own' : before' ≡ after' = let e = q.1 in cc in
      let stay : CardsAlike (met + 1) (most + 1) before before' = record {
        first = line-passes met most before cards.first;
        second = line-passes met most before' cards.second;
        views = cards.views;
      } in (
        equal-texts (seen before.world) (command_of before.world.shape.side (words_of content)) one other (p.0 ∙ sym q.0),
        subst (λ (card : Card). CardsAlike (met + 1) (most + 1) card after') own (subst (λ (card : Card). CardsAlike (met + 1) (most + 1) before card) own' stay),
      )

  pub line-alike : HasNoCell (command_of before.world.shape.side (words_of content))
      → RunSteps (Some before) content one (Some (Some after)) → RunSteps (Some before') content other (Some (Some after')) → AreAnsweredAlike
  line-alike no_cell p q = by (is_silent (words_of content)) p q
    where
      by : (b : Bool) → MatchBool b ((one ≡ []) × (Some (Some after) ≡ Some (Some before))) (OpensOrObeys (Some before) (words_of content) one (Some (Some after)))
          → MatchBool b ((other ≡ []) × (Some (Some after') ≡ Some (Some before'))) (OpensOrObeys (Some before') (words_of content) other (Some (Some after')))
          → AreAnsweredAlike
      by true p q = silent-alike p q
      by false p q = command-alike no_cell p q
