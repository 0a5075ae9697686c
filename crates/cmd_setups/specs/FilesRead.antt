-- Which files of rules are read. A line `rules NAME` that can't load a program any more is answered without its file: then the text of this
-- line is empty. The card has room for fewer programs after each line `rules NAME`, and for one more after each line `retire`.
use Rattle.std.specs.Prelude.{◌≡◌, ℕ, ◌+◌, ◌-◌, nat_lt, ⊤, Bool, false, if◌then◌else◌, List, [], ◌∷◌, codes, map, Option, Some, None}
use Rattle.cmd_setups.specs.TimedLines.{falling_line, without_times}
use Rattle.std.specs.Global.{Vec}
use Rattle.std.specs.Option.{is_some}
use Rattle.std.specs.Str.{bytes_eq}
use Rattle.card_core.specs.Shapes.{shape_fault}
use Rattle.card_core.specs.declared.shape.Shape.{Shape}
use Rattle.text_io.specs.Limits.{is_over}
use Rattle.text_io.specs.Lines.{Line, lines_of, line_content}
use Rattle.text_io.specs.Words.{is_silent, words_of}
use Rattle.text_card.specs.CardLine.{card_line_shape}
use Rattle.cmd_setups.specs.RulesLines.{named_rules, rules_name}
use Rattle.cmd_setups.specs.declared.card_room.CardRoom.{CardRoom}
use Rattle.cmd_setups.specs.declared.card_room.CardRoom.TheVariants.{Unopened, Opened, Over}

-- The room of a new card of this shape. Without one the run ends.
abbrev pub room_of_shape : Option Shape → CardRoom
room_of_shape None = Over
room_of_shape (Some shape) = if is_some (shape_fault shape) then Over else Opened shape.programs shape.programs

-- The first word retires a program.
abbrev pub is_retiring : List (List ℕ) → Bool
is_retiring [] = false
is_retiring (word ∷ words) = bytes_eq word (codes "retire")

-- The room for programs after one more, or one fewer, if the line retires or loads one.
abbrev pub room_after_command : ℕ → ℕ → List ℕ → CardRoom
room_after_command free most content =
    if is_retiring (words_of content) then Opened (if nat_lt free most then free + 1 else free) most
    else if is_some (rules_name content) then Opened (free - 1) most
    else Opened free most

-- The room after a line of this content.
abbrev pub room_after : CardRoom → List ℕ → CardRoom
room_after Unopened content = if is_silent (words_of content) then Unopened else room_of_shape (card_line_shape (words_of content))
room_after (Opened free most) content = room_after_command free most content
room_after Over content = Over

-- The room at a line after this many others: a line over the limits ends the run.
abbrev pub room_at : ℕ → CardRoom → Line → CardRoom
room_at met room line = if is_over met line then Over else room

-- Whether a program may be loaded.
abbrev pub has_room_left : CardRoom → Bool
has_room_left Unopened = false
has_room_left (Opened free most) = nat_lt 0 free
has_room_left Over = false

-- These names, after that of a line, if it names rules. Without room None is in place of the name.
abbrev pub with_file : Bool → Option (List ℕ) → List (Option (List ℕ)) → List (Option (List ℕ))
with_file room None files = files
with_file room (Some name) files = (if room then Some name else None) ∷ files

-- For each of these lines that names rules, in order: the name of the file, if it is read. `met` lines are before these.
abbrev pub files_in : ℕ → CardRoom → List Line → List (Option (List ℕ))
files_in met room [] = []
files_in met room (line ∷ lines) =
    with_file (has_room_left (room_at met room line)) (named_rules line)
    (files_in (met + 1) (room_after (room_at met room line) (line_content line)) lines)

-- The same for the lines of a script without its times.
abbrev pub files_read_plain : List ℕ → List (Option (List ℕ))
files_read_plain script = files_in 0 Unopened (lines_of script)

-- The same, unless the time of the line of this number falls: then no file is read.
abbrev pub files_unless : Option ℕ → List ℕ → List (Option (List ℕ))
files_unless None script = files_read_plain script
files_unless (Some number) script = []

-- The same for a script.
abbrev pub files_read : List ℕ → List (Option (List ℕ))
files_read script = files_unless (falling_line script) (without_times script)

-- The octets of the name of a file, if it is read.
abbrev pub octets_of_name : Option (Vec ℕ) → Option (List ℕ)
octets_of_name None = None
octets_of_name (Some name) = Some name.items

-- The same of several files.
abbrev pub octets_of_names : List (Option (Vec ℕ)) → List (Option (List ℕ))
octets_of_names files = map octets_of_name files

-- The text is that of a file that isn't read, which is empty, or of one that is, of which nothing is said.
abbrev pub IsTextForFile : Option (List ℕ) → List ℕ → Type 0
IsTextForFile None text = text ≡ []
IsTextForFile (Some name) text = ⊤

-- There is one such text for each of these files.
abbrev pub AreTextsForFiles : List (Option (List ℕ)) → List (List ℕ) → Type 0
AreTextsForFiles [] texts = texts ≡ []
AreTextsForFiles (file ∷ files) [] = ⊥
AreTextsForFiles (file ∷ files) (text ∷ texts) = IsTextForFile file text × AreTextsForFiles files texts
