-- How the lines of a script change the programs that were loaded.
use Rattle.std.proofs.Common.{◌≡◌, ◌⊎◌, inl, inr, ℕ, suc, ◌==◌, Bool, true, false, if◌then◌else◌, List, [], ◌∷◌, ◌++◌, Option, Some, None, codes, length, option_map, slice_get, refl, sym, ap, ◌∙◌, subst}
use Rattle.std.specs.Bool.{MatchBool}
use Rattle.std.specs.Option.{MatchOption}
use Rattle.bpf_code.specs.OctetSpelling.{SpellsCode}
use Rattle.bpf_code.specs.declared.decoder.DecodeFault.{DecodeFault}
use Rattle.bpf_code.specs.declared.decoder.DecodeFault.TheVariants as decoding
use Rattle.bpf_code.specs.declared.instr.Instr.{Instr}
use Rattle.bpf_verify.specs.declared.fault.Fault.{Fault}
use Rattle.bpf_verify.specs.declared.fault.Fault.TheVariants as fault
use Rattle.card_core.specs.Shapes.{shape_fault}
use Rattle.card_core.specs.Refusals.{load_fault, refusal}
use Rattle.card_core.specs.Steps.{Cuts, Enters, FindsNoMemory, IsRefused, Judges, Picks, Releases, Reloads, Retires, SetsUp, Succeeds, WorldStep, left_by, left_by_judge, left_by_pick}
use Rattle.card_core.specs.World.{Loading, PortState, World, entered, outside, picked}
use Rattle.card_core.specs.declared.answer.Answer.{Answer}
use Rattle.card_core.specs.declared.ask.Ask.{Ask}
use Rattle.card_core.specs.declared.fault.CardFault.{CardFault}
use Rattle.card_core.specs.declared.fault.DeskFault.{DeskFault}
use Rattle.card_core.specs.declared.reply.Reply.{Reply}
use Rattle.card_core.specs.declared.reply.Reply.TheVariants.{Answered, Entered, NotLoaded, Picked}
use Rattle.card_core.specs.declared.shape.Shape.{Shape}
use Rattle.card_core.specs.declared.step.Step.{Step}
use Rattle.card_core.specs.declared.step.Step.TheVariants.{Enter, Pick, Judge, Load, Retire, Setup, Reload, Release, Cut}
use Rattle.gen_arena.specs.declared.id.Id.{Id}
use Rattle.leaky.specs.declared.gcra.GcraFault.{GcraFault}
use Rattle.text_io.specs.Answering.{EndsBy}
use Rattle.text_io.specs.Words.{is_silent, words_of}
use Rattle.text_card.specs.CardFaults.{desk_fault, desk_name, gcra_fault, no_card, no_such_program, shape_fault_line}
use Rattle.text_card.specs.CardLine.{card_line_shape}
use Rattle.text_card.specs.Replies.{reply_text}
use Rattle.upc_cell.specs.declared.vc.Vc.{Vc}
use Rattle.cmd_programs.specs.CodeFaults.{decode_fault, verify_fault}
use Rattle.cmd_programs.specs.Program.{ProgramReading, ReadsAs, is_program, is_refused}
use Rattle.cmd_run.specs.RunSide.{run_side}
use Rattle.cmd_run.specs.RunText.{AsksConnection, Card, IsAnswered, LoadsOctets, Obeys, OpensCard, OpensOrObeys, PolicesCell, PolicesOctets, RefusesLine, RunSteps, RunWorld, TakesCommand, TakesNamed, TakesReading, new_card}
use Rattle.text_script.specs.ProgramNames.{program_named}
use Rattle.text_script.specs.Rates.{first_wanted_fault}
use Rattle.text_script.specs.ReplyTexts.{program_name}
use Rattle.text_script.specs.ScriptCommands.{Command, load, retire, setup, reload, release, cut, cell, command_of}
use Rattle.text_script.specs.declared.script_words.Wanted.{Wanted}
use Rattle.text_words.specs.FaultLines.{bad_hex, bad_line, line, wrong_length}
use Rattle.text_words.specs.Hexadecimal.{cell_of_octets, octets_of_digits}
use Rattle.cmd_explain_script.specs.LoadedPrograms.{codes_in_order, loaded_codes}
use Rattle.cmd_explain_script.specs.inner.ProgramsKept.{CodesAfter, is_loaded_answer, load_digits, loaded_digits}

-- What was loaded.
abbrev given_of : World → List Loading
given_of world = world.loaded

abbrev card_codes : Card → List (List Instr)
card_codes card = codes_in_order card.world.loaded

-- The card has the same programs.
abbrev KeepsCodes : Card → Card → Type 0
KeepsCodes before after = card_codes after ≡ card_codes before

-- An answer that loads nothing.
unloaded : (b : Bool) (found : Option (List ℕ)) (before after : List (List Instr)) → b ≡ false → after ≡ before → CodesAfter (if b then found else None) before after
unloaded true found before after is same = let no = is in absurd cc
unloaded false found before after is same = same

-- A command that loads nothing.
nothing : (b : Bool) (before after : List (List Instr)) → after ≡ before → CodesAfter (if b then None else None) before after
nothing true before after same = same
nothing false before after same = same

-- A program that was loaded.
loaded : (b : Bool) (digits octets : List ℕ) (code : List Instr) (before after : List (List Instr)) → b ≡ true → octets_of_digits digits ≡ Some octets → SpellsCode octets code
    → after ≡ before ++ code ∷ [] → CodesAfter (if b then Some digits else None) before after
loaded true digits octets code before after is read spells grew = (octets, code, read, spells, grew)
loaded false digits octets code before after is read spells grew = let no = is in absurd cc

-- A step of the card that loads nothing.
kept_by : (found : Option Reply) (before after : World) (step : Step) (reply : Reply) → (Succeeds before step reply after → given_of after ≡ given_of before)
    → given_of (left_by before step) ≡ given_of before
    → MatchOption found (Succeeds before step reply after ⊎ FindsNoMemory before step reply after) (λ refused. IsRefused before step refused reply after)
    → given_of after ≡ given_of before
kept_by None before after step reply succeeds left (inl done) = succeeds done
kept_by None before after step reply succeeds left (inr none) = ap given_of none.world
kept_by (Some refused) before after step reply succeeds left is = ap given_of is.world ∙ left

left_pick : (world : World) (port : ℕ) (found : Option PortState) → given_of (left_by_pick world port found) ≡ given_of world
left_pick world port None = refl
left_pick world port (Some outside) = refl
left_pick world port (Some (entered octets moment)) = refl
left_pick world port (Some (picked picking)) = refl

left_judge : (world : World) (port : ℕ) (found : Option PortState) → given_of (left_by_judge world port found) ≡ given_of world
left_judge world port None = refl
left_judge world port (Some outside) = refl
left_judge world port (Some (entered octets moment)) = refl
left_judge world port (Some (picked picking)) = refl

module _ (before after : World) (reply : Reply) where
  enter_keeps : (port : ℕ) (octets : List ℕ) (moment : ℕ) → WorldStep before (Enter port octets moment) reply after → given_of after ≡ given_of before
  enter_keeps port octets moment steps =
      kept_by (refusal before (Enter port octets moment)) before after (Enter port octets moment) reply (λ (done : Enters before port octets moment reply after). ap given_of done.world) refl steps

  pick_keeps : (port : ℕ) → WorldStep before (Pick port) reply after → given_of after ≡ given_of before
  pick_keeps port steps =
      kept_by (refusal before (Pick port)) before after (Pick port) reply (λ (done : Picks before port reply after). ap given_of done.world)
      (left_pick before port (slice_get before.ports port)) steps

  judge_keeps : (port : ℕ) → WorldStep before (Judge port) reply after → given_of after ≡ given_of before
  judge_keeps port steps =
      kept_by (refusal before (Judge port)) before after (Judge port) reply (λ (done : Judges before port reply after). ap given_of done.world)
      (left_judge before port (slice_get before.ports port)) steps

  retire_keeps : (id : Id) → WorldStep before (Retire id) reply after → given_of after ≡ given_of before
  retire_keeps id steps =
      kept_by (refusal before (Retire id)) before after (Retire id) reply (λ (done : Retires before id reply after). ap given_of done.world) refl steps

  setup_keeps : (ask : Ask) → WorldStep before (Setup ask) reply after → given_of after ≡ given_of before
  setup_keeps ask steps =
      kept_by (refusal before (Setup ask)) before after (Setup ask) reply (λ (done : SetsUp before ask reply after). ap given_of done.world) refl steps

  reload_keeps : (vc : Vc) (id : Id) → WorldStep before (Reload vc id) reply after → given_of after ≡ given_of before
  reload_keeps vc id steps =
      kept_by (refusal before (Reload vc id)) before after (Reload vc id) reply (λ (done : Reloads before vc id reply after). ap given_of done.world) refl steps

  release_keeps : (vc : Vc) → WorldStep before (Release vc) reply after → given_of after ≡ given_of before
  release_keeps vc steps =
      kept_by (refusal before (Release vc)) before after (Release vc) reply (λ (done : Releases before vc reply after). ap given_of done.world) refl steps

  cut_keeps : (vc : Vc) → WorldStep before (Cut vc) reply after → given_of after ≡ given_of before
  cut_keeps vc steps =
      kept_by (refusal before (Cut vc)) before after (Cut vc) reply (λ (done : Cuts before vc reply after). ap given_of done.world) refl steps

-- A command whose step loads nothing.
taken_keeps : (before after : Card) (command : Command) (step : Step) (text : List ℕ)
    → ((reply : Reply) → WorldStep before.world step reply after.world → given_of after.world ≡ given_of before.world)
    → TakesCommand before command step text after → KeepsCodes before after
taken_keeps before after command step text keeps takes = ap codes_in_order (keeps takes.reply takes.stepped)

refused_keeps : (before after : Card) (fault text : List ℕ) → RefusesLine fault before text after → KeepsCodes before after
refused_keeps before after fault text refused = ap card_codes refused.1

named_keeps : (found : Option Id) (before after : Card) (text : List ℕ) (TakesWith : Id → List ℕ → Card → Type 0)
    → ((id : Id) → TakesWith id text after → KeepsCodes before after)
    → MatchOption found (RefusesLine no_such_program before text after) (λ id. TakesWith id text after) → KeepsCodes before after
named_keeps None before after text TakesWith keeps refused = refused_keeps before after no_such_program text refused
named_keeps (Some id) before after text TakesWith keeps takes = keeps id takes

module _ (before after : Card) (text : List ℕ) where
  -- A setup.
  wanted_keeps : (vc : Vc) (number : ℕ) (wanted : List Wanted) (found : Option GcraFault)
      → MatchOption found (TakesNamed before (setup vc number wanted) number (AsksConnection before vc number wanted) text after)
      (λ fault. RefusesLine (gcra_fault fault) before text after) → KeepsCodes before after
  wanted_keeps vc number wanted None takes =
      named_keeps (program_named before.names number) before after text (AsksConnection before vc number wanted)
      (λ id asks. taken_keeps before after (setup vc number wanted) (Setup asks.ask) text (λ reply. setup_keeps before.world after.world reply asks.ask) asks.taken)
      takes
  wanted_keeps vc number wanted (Some fault) refused = refused_keeps before after (gcra_fault fault) text refused

  -- A cell.
  answered_keeps : (between : World) (answer : Answer) → IsAnswered between answer after.world → given_of after.world ≡ given_of between
  answered_keeps between answer (inl refused) = pick_keeps between after.world (Answered answer) 0 refused
  answered_keeps between answer (inr judged) =
      judge_keeps judged.0 after.world (Answered answer) 0 judged.2 ∙ pick_keeps between judged.0 Picked 0 judged.1

  arrives_keeps : (moment : ℕ) (octets : List ℕ) → PolicesCell before moment octets text after → KeepsCodes before after
  arrives_keeps moment octets polices =
      ap codes_in_order (answered_keeps polices.arrived.0 polices.answer polices.arrived.2
      ∙ enter_keeps before.world polices.arrived.0 Entered 0 octets moment polices.arrived.1)

  octets_keep : (moment : ℕ) (octets : List ℕ) (b : Bool)
      → MatchBool b (PolicesCell before moment octets text after) (RefusesLine (wrong_length (length octets)) before text after) → KeepsCodes before after
  octets_keep moment octets true polices = arrives_keeps moment octets polices
  octets_keep moment octets false refused = refused_keeps before after (wrong_length (length octets)) text refused

  digits_keep : (moment : ℕ) (found : Option (List ℕ))
      → MatchOption found (RefusesLine bad_hex before text after) (λ octets. PolicesOctets before moment (cell_of_octets octets) text after) → KeepsCodes before after
  digits_keep moment None refused = refused_keeps before after bad_hex text refused
  digits_keep moment (Some octets) polices = octets_keep moment (cell_of_octets octets) (length (cell_of_octets octets) == 52) polices

-- No fault line says that a program was loaded.
abbrev IsOther : List ℕ → Type 0
IsOther text = is_loaded_answer text ≡ false

verify_other : (found : Fault) → IsOther (verify_fault found)
verify_other fault.Empty = refl
verify_other fault.TooLong = refl
verify_other (fault.BadScratch at) = refl
verify_other (fault.ZeroDivisor at) = refl
verify_other (fault.BadShift at) = refl
verify_other (fault.JumpOutside at) = refl
verify_other fault.NoReturn = refl
verify_other (fault.Unwritten at word) = refl

decode_other : (found : DecodeFault) → IsOther (decode_fault found)
decode_other decoding.Ragged = refl
decode_other (decoding.UnknownCode at code) = refl
decode_other decoding.NoMemory = refl

named_other : (found : Option (List ℕ)) (text : List ℕ) → option_map (λ name. line (codes "fault desk " ++ name)) found ≡ Some text → IsOther text
named_other None text e = let no = e in absurd cc
named_other (Some name) text e =
    let e' : Some (line (codes "fault desk " ++ name)) ≡ Some text = e in
    let is : line (codes "fault desk " ++ name) ≡ text = cc in
    subst IsOther is refl

reading_other : (octets text : List ℕ) → ReadsAs octets (is_refused text) → IsOther text
reading_other octets text (inl spelled) = subst IsOther (sym spelled.2.2) (verify_other spelled.2.0)
reading_other octets text (inr faulty) =
    let same : text ≡ decode_fault faulty.0 = let e = faulty.3 in cc in
    subst IsOther (sym same) (decode_other faulty.0)

reading_spells : (octets : List ℕ) (code : List Instr) → ReadsAs octets (is_program code) → SpellsCode octets code
reading_spells octets code (inl spelled) = subst (λ (code' : List Instr). SpellsCode octets code') (sym spelled.2.1) spelled.1
reading_spells octets code (inr faulty) = let no = faulty.3 in absurd cc

-- A load.
module _ (before after : Card) (text digits : List ℕ) where
  abbrev Follows : Type 0
  Follows = CodesAfter (if is_loaded_answer text then Some digits else None) (card_codes before) (card_codes after)

  load_refused : (fault : List ℕ) → IsOther fault → RefusesLine fault before text after → Follows
  load_refused fault other refused =
      unloaded (is_loaded_answer text) (Some digits) (card_codes before) (card_codes after) (subst IsOther (sym refused.0) other) (refused_keeps before after fault text refused)

  module _ (octets : List ℕ) (code : List Instr) (read : octets_of_digits digits ≡ Some octets) (spells : SpellsCode octets code) where
    load_replied : (found : Option DeskFault) (reply : Reply)
        → MatchOption (option_map (λ fault. NotLoaded fault code) found) (Succeeds before.world (Load code) reply after.world ⊎ FindsNoMemory before.world (Load code) reply after.world)
        (λ refused. IsRefused before.world (Load code) refused reply after.world)
        → reply_text before.world.shape.side (load digits) (length before.names) reply ≡ Some text → Follows
    load_replied None reply (inl done) says =
        let e : Some (line (codes "loaded " ++ program_name (suc (length before.names)))) ≡ Some text =
        ap (reply_text before.world.shape.side (load digits) (length before.names)) (sym done.answer) ∙ says in
        let is : line (codes "loaded " ++ program_name (suc (length before.names))) ≡ text = cc in
        loaded (is_loaded_answer text) digits octets code (card_codes before) (card_codes after) (subst (λ (xs : List ℕ). is_loaded_answer xs ≡ true) is refl) read spells
        (ap (λ (world : World). codes_in_order world.loaded) done.world)
    load_replied None reply (inr none) says = let no : None ≡ Some reply = none.answer in absurd cc
    load_replied (Some fault) reply refused says =
        let e : desk_fault fault ≡ Some text = ap (reply_text before.world.shape.side (load digits) (length before.names)) (sym refused.answer) ∙ says in
        unloaded (is_loaded_answer text) (Some digits) (card_codes before) (card_codes after) (named_other (desk_name fault) text e)
        (ap (λ (world : World). codes_in_order world.loaded) refused.world)

  load_reading : (octets : List ℕ) → octets_of_digits digits ≡ Some octets → (reading : ProgramReading) → ReadsAs octets reading
      → TakesReading before digits reading text after → Follows
  load_reading octets read (is_program code) reads takes =
      load_replied octets code read (reading_spells octets code reads) (load_fault before.world) takes.reply takes.stepped takes.printed
  load_reading octets read (is_refused fault) reads refused = load_refused fault (reading_other octets fault reads) refused

  load_digits_follow : (found : Option (List ℕ)) → octets_of_digits digits ≡ found
      → MatchOption found (RefusesLine bad_hex before text after) (λ octets. LoadsOctets before digits octets text after) → Follows
  load_digits_follow None is refused = load_refused bad_hex refl refused
  load_digits_follow (Some octets) is loads = load_reading octets is loads.0 loads.1 loads.2

-- A command.
module _ (before after : Card) (text : List ℕ) where
  abbrev CommandFollows : Option Command → Type 0
  CommandFollows found = CodesAfter (if is_loaded_answer text then load_digits found else None) (card_codes before) (card_codes after)

  no_load : KeepsCodes before after → CodesAfter (if is_loaded_answer text then None else None) (card_codes before) (card_codes after)
  no_load same = nothing (is_loaded_answer text) (card_codes before) (card_codes after) same

  command_follows : (found : Option Command) → MatchOption found (RefusesLine bad_line before text after) (λ command. Obeys before command text after) → CommandFollows found
  command_follows None refused = no_load (refused_keeps before after bad_line text refused)
  command_follows (Some (load digits)) obeys = load_digits_follow before after text digits (octets_of_digits digits) refl obeys
  command_follows (Some (retire number)) obeys =
      no_load (named_keeps (program_named before.names number) before after text (λ id. TakesCommand before (retire number) (Retire id))
      (λ id takes. taken_keeps before after (retire number) (Retire id) text (λ reply. retire_keeps before.world after.world reply id) takes) obeys)
  command_follows (Some (setup vc number wanted)) obeys = no_load (wanted_keeps before after text vc number wanted (first_wanted_fault wanted) obeys)
  command_follows (Some (reload vc number)) obeys =
      no_load (named_keeps (program_named before.names number) before after text (λ id. TakesCommand before (reload vc number) (Reload vc id))
      (λ id takes. taken_keeps before after (reload vc number) (Reload vc id) text (λ reply. reload_keeps before.world after.world reply vc id) takes) obeys)
  command_follows (Some (release vc)) obeys =
      no_load (taken_keeps before after (release vc) (Release vc) text (λ reply. release_keeps before.world after.world reply vc) obeys)
  command_follows (Some (cut vc)) obeys = no_load (taken_keeps before after (cut vc) (Cut vc) text (λ reply. cut_keeps before.world after.world reply vc) obeys)
  command_follows (Some (cell moment digits)) obeys = no_load (digits_keep before after text moment (octets_of_digits digits) obeys)

-- The line that opens a card.
new_codes : (shape : Shape) (text : List ℕ) (card : Card) (found : Option CardFault)
    → MatchOption found ((text ≡ codes "ready\n") × (Some (Some card) ≡ Some (Some (new_card shape)))) (λ fault. EndsBy (shape_fault_line fault) text (Some (Some card)))
    → card_codes card ≡ []
new_codes shape text card None opened =
    let same : card ≡ new_card shape = let e = opened.1 in cc in
    ap card_codes same
new_codes shape text card (Some fault) ends = let no = ends.1 in absurd cc

opened_codes : (text : List ℕ) (card : Card) (found : Option Shape)
    → MatchOption found (EndsBy no_card text (Some (Some card))) (λ shape. OpensCard shape text (Some (Some card))) → card_codes card ≡ []
opened_codes text card None ends = let no = ends.1 in absurd cc
opened_codes text card (Some shape) opens = new_codes shape text card (shape_fault shape) opens

line_follows : (b : Bool) (world after : RunWorld) (content text : List ℕ)
    → MatchBool b ((text ≡ []) × (Some after ≡ Some world)) (OpensOrObeys world (words_of content) text (Some after))
    → CodesAfter (loaded_digits (run_side world) content text) (loaded_codes world) (loaded_codes after)
line_follows true None after content text silent =
    let same : after ≡ None = let e = silent.1 in cc in
    ap loaded_codes same
line_follows true (Some card) after content text silent =
    let same : after ≡ Some card = let e = silent.1 in cc in
    unloaded (is_loaded_answer text) (load_digits (command_of card.world.shape.side (words_of content))) (card_codes card) (loaded_codes after) (ap is_loaded_answer silent.0) (ap loaded_codes same)
line_follows false None None content text opens = refl
line_follows false None (Some card) content text opens = opened_codes text card (card_line_shape (words_of content)) opens
line_follows false (Some before) after content text obeys =
    let same : after ≡ Some obeys.0 = let e = obeys.2 in cc in
    let Follows : RunWorld → Type 0 = λ world. CodesAfter (if is_loaded_answer text then load_digits (command_of before.world.shape.side (words_of content)) else None) (card_codes before) (loaded_codes world) in
    subst Follows (sym same) (command_follows before obeys.0 text (command_of before.world.shape.side (words_of content)) obeys.1)

-- The programs after a line are those before it, and perhaps that of the line.
pub codes_follow : (world after : RunWorld) (content text : List ℕ) → RunSteps world content text (Some after)
    → CodesAfter (loaded_digits (run_side world) content text) (loaded_codes world) (loaded_codes after)
codes_follow world after content text steps = line_follows (is_silent (words_of content)) world after content text steps
