-- The card's steps, as far as `run` has to know them: each reply but an allocation failure has a line, and port 0 has
-- no cell after each command.
use Rattle.std.proofs.Common.{◌≡◌, ◌⊎◌, ℕ, inl, inr, true, false, List, ◌++◌, Option, Some, None, codes, decimal, option_map, refl, sym, ap, ◌∙◌, subst}
use Rattle.std.specs.Option.{is_some}
use Rattle.std.specs.Option.{MatchOption}
use Rattle.upc_cell.specs.declared.side.Side.{Side}
use Rattle.upc_cell.specs.declared.vc.Vc.{Vc}
use Rattle.bpf_code.specs.declared.instr.Instr.{Instr}
use Rattle.gen_arena.specs.declared.id.Id.{Id}
use Rattle.card_core.specs.Laws.{is_of_memory}
use Rattle.card_core.specs.Refusals.{load_fault, missing_fault, reload_fault, retire_fault, setup_fault}
use Rattle.card_core.specs.Steps.{FindsNoMemory, IsRefused, Succeeds, WorldStep}
use Rattle.card_core.specs.World.{World}
use Rattle.card_core.specs.declared.answer.Answer.{Answer}
use Rattle.card_core.specs.declared.answer.Answer.TheVariants as answer
use Rattle.card_core.specs.declared.ask.Ask.{Ask}
use Rattle.card_core.specs.declared.fault.DeskFault.{DeskFault}
use Rattle.card_core.specs.declared.fault.DeskFault.TheVariants as desk
use Rattle.card_core.specs.declared.reply.Reply.{Reply}
use Rattle.card_core.specs.declared.reply.Reply.TheVariants.{Answered, NotLoaded, NotSetUp, Refused}
use Rattle.card_core.specs.declared.step.Step.{Step}
use Rattle.card_core.specs.declared.step.Step.TheVariants.{Load, Retire, Setup, Reload, Release, Cut}
use Rattle.text_script.specs.ScriptCommands.{Command, load, retire, setup, reload, release, cut}
use Rattle.text_words.specs.FaultLines.{line}
use Rattle.text_card.specs.CardFaults.{arrive_fault, desk_fault}
use Rattle.text_card.specs.Replies.{answer_text, reply_text}
use Rattle.text_script.specs.declared.script_words.Wanted.{Wanted}

-- There is a text.
abbrev pub IsPrinted : Option (List ℕ) → Type 0
IsPrinted found = (text : List ℕ) × (found ≡ Some text)

-- A text that is computed to exist exists.
text-there : (found : Option (List ℕ)) → is_some found ≡ true → IsPrinted found
text-there None e = let no : false ≡ true = e in cc
text-there (Some text) e = (text, refl)

-- The reply reports no allocation failure.
abbrev pub Spares : Reply → Type 0
Spares reply = is_of_memory reply ≡ false

named-printed : (name : List ℕ) → IsPrinted (option_map (λ named. line (codes "fault desk " ++ named)) (Some name))
named-printed name = (line (codes "fault desk " ++ name), refl)

desk-printed : (fault : DeskFault) → Spares (Refused fault) → IsPrinted (desk_fault fault)
desk-printed desk.NoProgram e = named-printed (codes "1 NoProgram")
desk-printed desk.NoConnection e = named-printed (codes "2 NoConnection")
desk-printed desk.Taken e = named-printed (codes "3 Taken")
desk-printed desk.NoLine e = named-printed (codes "4 NoLine")
desk-printed desk.InUse e = named-printed (codes "5 InUse")
desk-printed desk.ProgramsFull e = named-printed (codes "6 ProgramsFull")
desk-printed desk.Exhausted e = named-printed (codes "7 Exhausted")
desk-printed desk.BadContracts e = named-printed (codes "8 BadContracts")
desk-printed desk.Busy e = named-printed (codes "9 Busy")
desk-printed desk.NoMemory e = let no : true ≡ false = e in cc
desk-printed desk.Stale e = named-printed (codes "11 Stale")

not_loaded : (fault : DeskFault) (code : List Instr) → is_of_memory (NotLoaded fault code) ≡ is_of_memory (Refused fault)
not_loaded desk.NoMemory code = refl
not_loaded _ code = refl

not_set_up : (fault : DeskFault) (ask : Ask) → is_of_memory (NotSetUp fault ask) ≡ is_of_memory (Refused fault)
not_set_up desk.NoMemory ask = refl
not_set_up _ ask = refl

arrive-printed : (name : List ℕ) → IsPrinted (Some (arrive_fault name))
arrive-printed name = (arrive_fault name, refl)

pub answer-printed : (side : Side) (names : List Id) (vc : Vc) (given : Answer) → Spares (Answered given) → IsPrinted (answer_text side names vc given)
answer-printed side names vc (answer.Judged line_number number moment value program verdict leaving) e =
    text-there (answer_text side names vc (answer.Judged line_number number moment value program verdict leaving)) refl
answer-printed side names vc answer.NoConnection e = arrive-printed (codes "1 NoConnection")
answer-printed side names vc answer.Released e = arrive-printed (codes "2 Released")
answer-printed side names vc answer.Stale e = arrive-printed (codes "3 Stale")
answer-printed side names vc (answer.MomentBack last) e = arrive-printed (codes "4 MomentBack " ++ decimal last)
answer-printed side names vc answer.MomentTooLate e = arrive-printed (codes "5 MomentTooLate")
answer-printed side names vc answer.JournalFull e = arrive-printed (codes "6 JournalFull")
answer-printed side names vc answer.NoMemory e = let no : true ≡ false = e in cc

-- A step of the desk succeeds, fails to allocate, or is refused with an error.
pub desk-cases : (P : Type 0) (wrap : DeskFault → Reply) (found : Option DeskFault) (before after : World) (step : Step) (reply : Reply)
    → (Succeeds before step reply after → P) → (FindsNoMemory before step reply after → P)
    → ((fault : DeskFault) → IsRefused before step (wrap fault) reply after → P)
    → MatchOption (option_map wrap found) (Succeeds before step reply after ⊎ FindsNoMemory before step reply after)
    (λ refused. IsRefused before step refused reply after) → P
desk-cases P wrap None before after step reply succeeds lacks refused (inl goes) = succeeds goes
desk-cases P wrap None before after step reply succeeds lacks refused (inr none) = lacks none
desk-cases P wrap (Some fault) before after step reply succeeds lacks refused is = refused fault is

-- If the reply to a command reports no allocation failure, it has a line.
abbrev HasText : Side → Command → ℕ → Reply → Type 0
HasText side command programs reply = Spares reply → IsPrinted (reply_text side command programs reply)

prints : (side : Side) (command : Command) (programs : ℕ) (reply known : Reply) → reply ≡ known → HasText side command programs known → HasText side command programs reply
prints side command programs reply known same printed = subst (λ r. HasText side command programs r) (sym same) printed

pub load-printed : (side : Side) (before after : World) (code : List Instr) (digits : List ℕ) (programs : ℕ) (reply : Reply)
    → WorldStep before (Load code) reply after → Spares reply → IsPrinted (reply_text side (load digits) programs reply)
load-printed side before after code digits programs reply =
    desk-cases (HasText side (load digits) programs reply) (λ fault. NotLoaded fault code) (load_fault before) before after (Load code) reply
    (λ s. prints side (load digits) programs reply _ s.answer (λ e. text-there _ refl))
    (λ l. let no = l.answer in cc)
    (λ fault r. prints side (load digits) programs reply _ r.answer (λ e. desk-printed fault (sym (not_loaded fault code) ∙ e)))

pub retire-printed : (side : Side) (before after : World) (id : Id) (number programs : ℕ) (reply : Reply)
    → WorldStep before (Retire id) reply after → Spares reply → IsPrinted (reply_text side (retire number) programs reply)
retire-printed side before after id number programs reply =
    desk-cases (HasText side (retire number) programs reply) (λ fault. Refused fault) (retire_fault before id) before after (Retire id) reply
    (λ s. prints side (retire number) programs reply _ s.answer (λ e. text-there _ refl))
    (λ l. let no = l.answer in cc)
    (λ fault r. prints side (retire number) programs reply _ r.answer (desk-printed fault))

pub setup-printed : (side : Side) (before after : World) (ask : Ask) (vc : Vc) (number : ℕ) (wanted : List Wanted) (programs : ℕ) (reply : Reply)
    → WorldStep before (Setup ask) reply after → Spares reply → IsPrinted (reply_text side (setup vc number wanted) programs reply)
setup-printed side before after ask vc number wanted programs reply =
    desk-cases (HasText side (setup vc number wanted) programs reply) (λ fault. NotSetUp fault ask) (setup_fault before ask) before after (Setup ask) reply
    (λ s. prints side (setup vc number wanted) programs reply _ s.answer (λ e. text-there _ refl))
    (λ l e. let same : NotSetUp desk.NoMemory ask ≡ reply = cc in let no : true ≡ false = ap is_of_memory same ∙ e in cc)
    (λ fault r. prints side (setup vc number wanted) programs reply _ r.answer (λ e. desk-printed fault (sym (not_set_up fault ask) ∙ e)))

pub reload-printed : (side : Side) (before after : World) (vc : Vc) (id : Id) (number programs : ℕ) (reply : Reply)
    → WorldStep before (Reload vc id) reply after → Spares reply → IsPrinted (reply_text side (reload vc number) programs reply)
reload-printed side before after vc id number programs reply =
    desk-cases (HasText side (reload vc number) programs reply) (λ fault. Refused fault) (reload_fault before vc id) before after (Reload vc id) reply
    (λ s. prints side (reload vc number) programs reply _ s.answer (λ e. text-there _ refl))
    (λ l. let no = l.answer in cc)
    (λ fault r. prints side (reload vc number) programs reply _ r.answer (desk-printed fault))

pub release-printed : (side : Side) (before after : World) (vc : Vc) (programs : ℕ) (reply : Reply)
    → WorldStep before (Release vc) reply after → Spares reply → IsPrinted (reply_text side (release vc) programs reply)
release-printed side before after vc programs reply =
    desk-cases (HasText side (release vc) programs reply) (λ fault. Refused fault) (missing_fault before vc) before after (Release vc) reply
    (λ s. prints side (release vc) programs reply _ s.answer (λ e. text-there _ refl))
    (λ l. let no = l.answer in cc)
    (λ fault r. prints side (release vc) programs reply _ r.answer (desk-printed fault))

pub cut-printed : (side : Side) (before after : World) (vc : Vc) (programs : ℕ) (reply : Reply)
    → WorldStep before (Cut vc) reply after → Spares reply → IsPrinted (reply_text side (cut vc) programs reply)
cut-printed side before after vc programs reply =
    desk-cases (HasText side (cut vc) programs reply) (λ fault. Refused fault) (missing_fault before vc) before after (Cut vc) reply
    (λ s. prints side (cut vc) programs reply _ s.answer (λ e. text-there _ refl))
    (λ l e. let same : Refused desk.NoMemory ≡ reply = cc in let no : true ≡ false = ap is_of_memory same ∙ e in cc)
    (λ fault r. prints side (cut vc) programs reply _ r.answer (desk-printed fault))
