-- The answers of the desk.
use Rattle.std.proofs.Common.{◌≡◌, ◌≢◌, ℕ, suc, ◌+◌, ◌<◌, Bool, true, false, List, [], ◌∷◌, ◌++◌, length, get_or, map, take, Option, Some, None, codes, bytes_eq, if◌then◌else◌, option_map, option_and_then, length-append, refl, ap, sym, subst, ◌∙◌, arith}
use Rattle.std.proofs.lemmas.List.{append-nil, append_assoc, map-append, take_more}
use Rattle.std.specs.Prelude.{MatchOption}
use Rattle.gen_arena.specs.declared.id.Id.{Id}
use Rattle.upc_cell.specs.declared.side.Side.{Side}
use Rattle.text_io.specs.Words.{words_of}
use Rattle.bpf_code.specs.declared.instr.Instr.{Instr}
use Rattle.leaky.specs.declared.gcra.GcraFault.{GcraFault}
use Rattle.upc_cell.specs.declared.vc.Vc.{Vc}
use Rattle.card_core.specs.declared.reply.Reply.{Reply}
use Rattle.card_core.specs.declared.reply.Reply.TheVariants.{Loaded}
use Rattle.text_words.specs.FaultLines.{line, bad_hex, bad_line}
use Rattle.text_words.specs.Hexadecimal.{octets_of_digits}
use Rattle.cmd_programs.specs.Program.{is_program, ReadsAs}
use Rattle.text_card.specs.CardFaults.{gcra_fault, no_such_program}
use Rattle.text_card.specs.Replies.{reply_text}
use Rattle.text_script.specs.ProgramNames.{program_named}
use Rattle.text_script.specs.ReplyTexts.{program_name}
use Rattle.text_card.specs.AddsSome.{AddsSome}
use Rattle.text_script.specs.Rates.{first_wanted_fault}
use Rattle.text_script.specs.declared.script_words.Wanted.{Wanted}
use Rattle.text_script.specs.ScriptCommands.{Command, load, retire, setup, reload, release, cut, cell, command_of, cell_of_words, load_of, retire_of, setup_of, reload_of, release_of, cut_of, connection_and_program, setup_with, reload_with, only_vc, wanted_contracts}
use Rattle.text_script.specs.ScriptWords.{number_of_digits, program_of}
use Rattle.line_record.specs.Tally.{nothing, plus}
use Rattle.line_record.specs.declared.tally.Tally.{Tally}
use Rattle.cmd_ports.proofs.CountsLemmas.{nothing-plus, plus-regroup}
use Rattle.cmd_ports.specs.LineAnswers.{MayAnswerCommand, MayAnswerLine, MayObey, MayReply, Refuses, Replies, RepliesToNamed, RepliesToOctets, loaded_id}
use Rattle.cmd_ports.specs.ScriptAnswers.{AnswersEach}
use Rattle.text_script.specs.Dealing.{is_cell_line}
use Rattle.cmd_ports.specs.inner.DeskTexts.{AddsReply, MayObeyLine, ObeysEach}

-- A reply that loads no program.
pub replied : (side : Side) (command : Command) (reply : Reply) (names : List Id) (text old new : List ℕ) → MayReply command reply → loaded_id reply ≡ []
    → reply_text side command (length names) reply ≡ Some text → new ≡ old ++ text → AddsReply (Replies side command) names names old new
replied side command reply names text old new possible none printed added = (
  text,
  added,
  record { reply = reply; possible = possible; named = sym (append-nil names) ∙ ap (λ (ids : List Id). names ++ ids) (sym none); printed = printed },
)

-- A command that names a program which was loaded, and one that names none.
pub named-reply : (side : Side) (command : Command) (number : ℕ) (id : Id) (names names' : List Id) (old new : List ℕ) → program_named names number ≡ Some id
    → AddsReply (Replies side command) names names' old new → AddsReply (RepliesToNamed side command number) names names' old new
named-reply side command number id names names' old new is (text, added, replies) = (
  text,
  added,
  subst (λ (found : Option Id). MatchOption found (Refuses no_such_program names text names') (λ id. Replies side command names text names')) (sym is) replies,
)

pub unnamed-reply : (side : Side) (command : Command) (number : ℕ) (names : List Id) (old new : List ℕ) → program_named names number ≡ None
    → new ≡ old ++ no_such_program → AddsReply (RepliesToNamed side command number) names names old new
unnamed-reply side command number names old new none added = (
  no_such_program,
  added,
  subst (λ (found : Option Id). MatchOption found (Refuses no_such_program names no_such_program names) (λ id. Replies side command names no_such_program names)) (sym none) (refl, refl),
)

-- Octets that were appended are the text that exists.
pub adds-some : (found : Option (List ℕ)) (old new : List ℕ) → AddsSome found old new → (text : List ℕ) × (new ≡ old ++ text) × (found ≡ Some text)
adds-some None old new added = absurd added
adds-some (Some text) old new added = (text, added, refl)

-- A setup whose rates have no error.
pub setup-reply : (side : Side) (vc : Vc) (number : ℕ) (wanted : List Wanted) (names names' : List Id) (old new : List ℕ) → first_wanted_fault wanted ≡ None
    → AddsReply (RepliesToNamed side (setup vc number wanted) number) names names' old new → AddsReply (MayObey side (setup vc number wanted)) names names' old new
setup-reply side vc number wanted names names' old new sound (text, added, replies) = (
  text,
  added,
  subst (λ (found : Option GcraFault). MatchOption found (RepliesToNamed side (setup vc number wanted) number names text names') (λ fault. Refuses (gcra_fault fault) names text names'))
      (sym sound) replies,
)

-- The octets of the digits are a program.
pub load-reply : (side : Side) (digits octets : List ℕ) (code : List Instr) (names names' : List Id) (old new : List ℕ) → octets_of_digits digits ≡ Some octets
    → ReadsAs octets (is_program code) → AddsReply (Replies side (load digits)) names names' old new → AddsReply (MayObey side (load digits)) names names' old new
load-reply side digits octets code names names' old new spelled reads (text, added, replies) = (
  text,
  added,
  subst (λ (found : Option (List ℕ)). MatchOption found (Refuses bad_hex names text names') (λ xs. RepliesToOctets side digits xs names text names'))
      (sym spelled) (is_program code, reads, replies),
)

-- A program that was loaded has the next name.
pub loaded : (side : Side) (digits : List ℕ) (id : Id) (names names' : List Id) (count : ℕ) (old new : List ℕ) → names' ≡ names ++ id ∷ [] → count ≡ length names'
    → new ≡ old ++ line (codes "loaded " ++ program_name count) → AddsReply (Replies side (load digits)) names names' old new
loaded side digits id names names' count old new pushed counted added =
    let next : count ≡ suc (length names) =
    counted ∙ ap length pushed ∙ length-append names (id ∷ []) ∙ (let more : length names + 1 ≡ suc (length names) = omega arith in more) in (
      line (codes "loaded " ++ program_name count),
      added,
      record {
        reply = Loaded id;
        possible = tt;
        named = pushed;
        printed = ap (λ n. Some (line (codes "loaded " ++ program_name n))) (sym next);
      },
    )

-- The command that the words spell.
abbrev is_cell : Option Command → Bool
is_cell None = false
is_cell (Some (cell moment digits)) = true
is_cell (Some (load digits)) = false
is_cell (Some (retire number)) = false
is_cell (Some (setup vc number wanted)) = false
is_cell (Some (reload vc number)) = false
is_cell (Some (release vc)) = false
is_cell (Some (cut vc)) = false

either-no : (b : Bool) (x y : Option Command) → is_cell x ≡ false → is_cell y ≡ false → is_cell (if b then x else y) ≡ false
either-no true x y p q = p
either-no false x y p q = q

mapped-no : {A : Type 0} (make : A → Command) → ((a : A) → is_cell (Some (make a)) ≡ false) → (found : Option A) → is_cell (option_map make found) ≡ false
mapped-no make never None = refl
mapped-no make never (Some a) = never a

and_then-no : {A : Type 0} (make : A → Option Command) → ((a : A) → is_cell (make a) ≡ false) → (found : Option A) → is_cell (option_and_then make found) ≡ false
and_then-no make never None = refl
and_then-no make never (Some a) = never a

load-no : (words : List (List ℕ)) → is_cell (load_of words) ≡ false
load-no [] = refl
load-no (digits ∷ []) = refl
load-no (digits ∷ more ∷ words) = refl

retire-no : (words : List (List ℕ)) → is_cell (retire_of words) ≡ false
retire-no [] = refl
retire-no (program ∷ []) = mapped-no (λ number. retire number) (λ number. refl) (program_of program)
retire-no (program ∷ more ∷ words) = refl

setup-no : (side : Side) (words : List (List ℕ)) → is_cell (setup_of side words) ≡ false
setup-no side [] = refl
setup-no side (path ∷ []) = refl
setup-no side (path ∷ channel ∷ []) = refl
setup-no side (path ∷ channel ∷ program ∷ contracts) =
    and_then-no (λ seat. option_map (setup_with seat) (wanted_contracts contracts))
    (λ seat. mapped-no (setup_with seat) (λ wanted. refl) (wanted_contracts contracts)) (connection_and_program side path channel program)

reload-no : (side : Side) (words : List (List ℕ)) → is_cell (reload_of side words) ≡ false
reload-no side [] = refl
reload-no side (path ∷ []) = refl
reload-no side (path ∷ channel ∷ []) = refl
reload-no side (path ∷ channel ∷ program ∷ []) = mapped-no reload_with (λ seat. refl) (connection_and_program side path channel program)
reload-no side (path ∷ channel ∷ program ∷ more ∷ words) = refl

release-no : (side : Side) (words : List (List ℕ)) → is_cell (release_of side words) ≡ false
release-no side words = mapped-no (λ vc. release vc) (λ vc. refl) (only_vc side words)

cut-no : (side : Side) (words : List (List ℕ)) → is_cell (cut_of side words) ≡ false
cut-no side words = mapped-no (λ vc. cut vc) (λ vc. refl) (only_vc side words)

-- The command of a line whose first word isn't that of a cell line.
abbrev others : Side → List ℕ → List (List ℕ) → Option Command
others side name words =
    if bytes_eq name (codes "load") then load_of words
    else if bytes_eq name (codes "retire") then retire_of words
    else if bytes_eq name (codes "setup") then setup_of side words
    else if bytes_eq name (codes "reload") then reload_of side words
    else if bytes_eq name (codes "release") then release_of side words
    else if bytes_eq name (codes "cut") then cut_of side words
    else None

others-no : (side : Side) (name : List ℕ) (words : List (List ℕ)) → is_cell (others side name words) ≡ false
others-no side name words =
    either-no (bytes_eq name (codes "load")) (load_of words) _ (load-no words)
    (either-no (bytes_eq name (codes "retire")) (retire_of words) _ (retire-no words)
    (either-no (bytes_eq name (codes "setup")) (setup_of side words) _ (setup-no side words)
    (either-no (bytes_eq name (codes "reload")) (reload_of side words) _ (reload-no side words)
    (either-no (bytes_eq name (codes "release")) (release_of side words) _ (release-no side words)
    (either-no (bytes_eq name (codes "cut")) (cut_of side words) None (cut-no side words) refl)))))

no-cell : (side : Side) (words : List (List ℕ)) → is_cell_line words ≡ false → is_cell (command_of side words) ≡ false
no-cell side [] is = refl
no-cell side (name ∷ words) is =
    ap (λ b. is_cell (if b then cell_of_words words else others side name words)) is ∙ others-no side name words

-- The desk's answer to a line that isn't a cell line is one that the line may have. It counts no cell.
no-cell-answered : (side : Side) (all : List Id) (found : Option Command) (names : List Id) (text : List ℕ) (names' : List Id) → is_cell found ≡ false
    → MatchOption found (Refuses bad_line names text names') (λ command. MayObey side command names text names')
    → MatchOption found (Refuses bad_line names text names' × (nothing ≡ nothing)) (λ command. MayAnswerCommand side all command names text names' nothing)
no-cell-answered side all None names text names' apart printed = (printed, refl)
no-cell-answered side all (Some (cell moment digits)) names text names' apart printed = let is : true ≡ false = apart in cc
no-cell-answered side all (Some (load digits)) names text names' apart printed = (printed, refl)
no-cell-answered side all (Some (retire number)) names text names' apart printed = (printed, refl)
no-cell-answered side all (Some (setup vc number wanted)) names text names' apart printed = (printed, refl)
no-cell-answered side all (Some (reload vc number)) names text names' apart printed = (printed, refl)
no-cell-answered side all (Some (release vc)) names text names' apart printed = (printed, refl)
no-cell-answered side all (Some (cut vc)) names text names' apart printed = (printed, refl)

pub desk-answered : (side : Side) (all : List Id) (words : List (List ℕ)) (names : List Id) (text : List ℕ) (names' : List Id) → is_cell_line words ≡ false
    → MayObeyLine side words names text names' → MayAnswerLine side all words names text names' nothing
desk-answered side all words names text names' apart printed =
    no-cell-answered side all (command_of side words) names text names' (no-cell side words apart) printed

-- A cell line is a cell, or no command.
none-of : (digits : List ℕ) (found : Option ℕ) → ((ticks : ℕ) → option_map (λ t. cell t digits) found ≢ Some (cell ticks digits))
    → option_map (λ t. cell t digits) found ≡ None
none-of digits None never = refl
none-of digits (Some ticks) never = absurd (never ticks refl)

no-command : (words : List (List ℕ)) → ((moment : ℕ) (digits : List ℕ) → cell_of_words words ≢ Some (cell moment digits)) → cell_of_words words ≡ None
no-command [] never = refl
no-command (moment ∷ []) never = refl
no-command (moment ∷ digits ∷ []) never = none-of digits (number_of_digits moment) (λ ticks. never ticks digits)
no-command (moment ∷ digits ∷ more ∷ words) never = refl

pub bad-cell : (side : Side) (words : List (List ℕ)) → is_cell_line words ≡ true
    → ((moment : ℕ) (digits : List ℕ) → command_of side words ≢ Some (cell moment digits)) → command_of side words ≡ None
bad-cell side [] is never = refl
bad-cell side (name ∷ words) is never =
    let same : command_of side (name ∷ words) ≡ cell_of_words words = ap (λ b. if b then cell_of_words words else others side name words) is in
    same ∙ no-command words (λ moment digits found. never moment digits (same ∙ found))

-- Answers to some lines, followed by those to the next.
pub each-append : (side : Side) (all : List Id) (xs ys : List (List ℕ)) (names mid names' : List Id) (one other : List ℕ) (counts more_counts : Tally)
    → AnswersEach side all xs names one mid counts → AnswersEach side all ys mid other names' more_counts
    → AnswersEach side all (xs ++ ys) names (one ++ other) names' (plus counts more_counts)
each-append side all [] ys names mid names' one other counts more_counts printed more =
    let same : more_counts ≡ plus counts more_counts = sym (ap (λ (t : Tally). plus t more_counts) printed.2 ∙ nothing-plus more_counts) in
    subst (λ (t : Tally). AnswersEach side all ys names (one ++ other) names' t) same
    (subst (λ (t : List ℕ). AnswersEach side all ys names (t ++ other) names' more_counts) (sym printed.0)
    (subst (λ (ids : List Id). AnswersEach side all ys ids other names' more_counts) printed.1 more))
each-append side all (x ∷ xs) ys names mid names' one other counts more_counts (here, rest, next, first, others, parted, summed, answer, later) more = (
  here,
  rest ++ other,
  next,
  first,
  plus others more_counts,
  ap (λ (t : List ℕ). t ++ other) parted ∙ append_assoc here rest other,
  ap (λ (t : Tally). plus t more_counts) summed ∙ plus-regroup first others more_counts,
  answer,
  each-append side all xs ys next mid names' rest other others more_counts later more,
)

-- One more text of the desk.
prints-more : (side : Side) (lines : List (List ℕ)) (line : List ℕ) (names mid names' : List Id) (texts : List (List ℕ)) (text : List ℕ)
    → ObeysEach side lines names texts mid → MayObeyLine side (words_of line) mid text names' → ObeysEach side (lines ++ line ∷ []) names (texts ++ text ∷ []) names'
prints-more side [] line names mid names' [] text printed one =
    (names', subst (λ (ids : List Id). MayObeyLine side (words_of line) ids text names') printed one, refl)
prints-more side [] line names mid names' (other ∷ texts) text printed one = absurd printed
prints-more side (first ∷ lines) line names mid names' [] text printed one = absurd printed
prints-more side (first ∷ lines) line names mid names' (other ∷ texts) text (next, here, later) one =
    (next, here, prints-more side lines line next mid names' texts text later one)

pub prints-next : {X : Type 0} {Y : Type 0} (v : X → List ℕ) (w : Y → List ℕ) (side : Side) (xs : List X) (k : ℕ) (d : X) (ys ys' : List Y) (y : Y) (text : List ℕ)
    (names mid names' : List Id) → k < length xs → ys' ≡ ys ++ y ∷ [] → w y ≡ text → ObeysEach side (map v (take k xs)) names (map w ys) mid
    → MayObeyLine side (words_of (v (get_or xs k d))) mid text names' → ObeysEach side (map v (take (k + 1) xs)) names (map w ys') names'
prints-next {X = X} {Y = Y} v w side xs k d ys ys' y text names mid names' within pushed is printed one =
    let x = get_or xs k d in
    let more = prints-more side (map v (take k xs)) (v x) names mid names' (map w ys) text printed one in
    let lines : map v (take (k + 1) xs) ≡ map v (take k xs) ++ v x ∷ [] = ap (map v) (take_more xs k d within) ∙ map-append v (take k xs) (x ∷ []) in
    let texts : map w ys' ≡ map w ys ++ text ∷ [] =
    ap (map w) pushed ∙ map-append w ys (y ∷ []) ∙ ap (λ (t : List ℕ). map w ys ++ t ∷ []) is in
    subst (λ (zs : List (List ℕ)). ObeysEach side zs names (map w ys') names') (sym lines)
    (subst (λ (ts : List (List ℕ)). ObeysEach side (map v (take k xs) ++ v x ∷ []) names ts names') (sym texts) more)
