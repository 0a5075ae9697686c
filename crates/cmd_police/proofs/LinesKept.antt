-- A script with its programs has the lines of the script.
use Rattle.std.proofs.Common.{◌≡◌, ◌⊎◌, inl, inr, ℕ, zero, suc, ◌-◌, ◌/◌, ◌%◌, ◌<◌, ◌==◌, ◌&&◌, not, Bool, true, false, if◌then◌else◌, List, [], ◌∷◌, ◌++◌, codes, length, get_or, Option, Some, None, refl, sym, ap, subst, ◌∙◌, arith, append-nil, append_assoc}
use Rattle.std.specs.Option.{MatchOption}
use Rattle.std.proofs.lemmas.Bool.{and_from, and_parts, not-true}
use Rattle.bpf_code.specs.Encoding.{code_octets}
use Rattle.bpf_code.specs.declared.instr.Instr.{Instr}
use Rattle.hex.specs.Hex.{encode_lower, encode_with, lower_digits}
use Rattle.text_io.specs.Lines.{Line, begun_with, lines_of, line_content, without_return}
use Rattle.cmd_rules.proofs.CommentsPut.{AllFree, AreCut, cut}
use Rattle.cmd_police.specs.RulesFiles.{IsProgramOfRules, later_texts, next_text}
use Rattle.cmd_setups.specs.RulesLines.{named_rules}
use Rattle.cmd_police.specs.SetupLaws.{AreReplaced, ProgramsKeepLines}
use Rattle.cmd_police.specs.SetupPrograms.{HasProgramsIn, load_command, load_line}
use Rattle.cmd_police.proofs.Completing.{ReplacesAt}

-- ---- one line, and what follows it

ended_lines : (octets rest : List ℕ) → AllFree octets → lines_of (octets ++ 10 ∷ rest) ≡ (record { octets = octets; ended = true }) ∷ lines_of rest
ended_lines [] rest f = refl
ended_lines (octet ∷ octets) rest f = rw f.0 (ap (begun_with octet) (ended_lines octets rest f.1))

last_line : (octets : List ℕ) → 0 < length octets → AllFree octets → lines_of octets ≡ (record { octets = octets; ended = false }) ∷ []
last_line [] some f = absurd (omega arith)
last_line (octet ∷ []) some f = rw f.0 refl
last_line (octet ∷ next ∷ octets) some f = rw f.0 (ap (begun_with octet) (last_line (next ∷ octets) (omega arith) f.1))

-- How a line ends among others.
abbrev EndsAmong : List ℕ → Bool → List Line → Type 0
EndsAmong octets ended lines = (ended ≡ true) ⊎ ((ended ≡ false) × (lines ≡ []) × (0 < length octets))

line_again : (octets : List ℕ) (ended : Bool) (lines : List Line) (rest : List ℕ) → AllFree octets → EndsAmong octets ended lines → (lines ≡ [] → rest ≡ [])
    → lines_of ((if ended then octets ++ codes "\n" else octets) ++ rest) ≡ (record { octets = octets; ended = ended }) ∷ lines_of rest
line_again octets true lines rest f ends none = ap lines_of (append_assoc octets (codes "\n") rest) ∙ ended_lines octets rest f
line_again octets false lines rest f (inl e) none = cc
line_again octets false lines rest f (inr e) none =
    let empty : rest ≡ [] = none e.1 in
    ap (λ (r : List ℕ). lines_of (octets ++ r)) empty ∙ ap lines_of (append-nil octets) ∙ last_line octets e.2 f
    ∙ ap (λ (r : List ℕ). (record { octets = octets; ended = false }) ∷ lines_of r) (sym empty)

-- ---- the line that loads a program

-- Whether the octet doesn't end a line.
abbrev is_inside : ℕ → Bool
is_inside octet = not (octet == 10) && not (octet == 13)

-- Whether this is so for every octet.
abbrev all_inside : List ℕ → Bool
all_inside [] = true
all_inside (octet ∷ rest) = is_inside octet && all_inside rest

inside_at : (line : List ℕ) (at : ℕ) → all_inside line ≡ true → is_inside (get_or line at 0) ≡ true
inside_at [] at h = refl
inside_at (octet ∷ line) zero h = (and_parts (is_inside octet) (all_inside line) h).0
inside_at (octet ∷ line) (suc at) h = inside_at line at (and_parts (is_inside octet) (all_inside line) h).1

inside_free : (line : List ℕ) → all_inside line ≡ true → AllFree line
inside_free [] h = tt
inside_free (octet ∷ line) h =
    let both = and_parts (is_inside octet) (all_inside line) h in
    let tests = and_parts (not (octet == 10)) (not (octet == 13)) both.0 in
    (not-true _ tests.0, inside_free line both.1)

digits_inside : (octets : List ℕ) → all_inside (encode_lower octets) ≡ true
unfolding encode_with
digits_inside [] = refl
digits_inside (octet ∷ octets) =
    and_from _ _ (inside_at lower_digits (octet / 16) refl) (and_from _ _ (inside_at lower_digits (octet % 16) refl) (digits_inside octets))

command_inside : (code : List Instr) → all_inside (load_command code) ≡ true
command_inside code = digits_inside (code_octets code)

no_return : (line : List ℕ) → all_inside line ≡ true → without_return line ≡ line
no_return line h =
    let tests = and_parts (not (get_or line (length line - 1) 0 == 10)) (not (get_or line (length line - 1) 0 == 13)) (inside_at line (length line - 1) h) in
    rw (not-true _ tests.1) refl

load_again : (code : List Instr) (rest : List ℕ) → lines_of (load_line code ++ rest) ≡ (record { octets = load_command code; ended = true }) ∷ lines_of rest
load_again code rest =
    ap lines_of (append_assoc (load_command code) (codes "\n") rest) ∙ ended_lines (load_command code) rest (inside_free (load_command code) (command_inside code))

-- ---- all lines

-- What replaces a line with this name or none.
abbrev ReplacedAt : Option (List ℕ) → Line → List Line → List (List ℕ) → Line → List Line → Type 0
ReplacedAt name line lines texts other others = MatchOption name
    ((other ≡ line) × AreReplaced lines texts others)
    (λ name. (code : List Instr) × IsProgramOfRules (next_text texts) code × (line_content other ≡ load_command code) × AreReplaced lines (later_texts texts) others)

-- Without lines nothing is made.
none_made : (lines : List Line) (texts : List (List ℕ)) (expanded : List ℕ) → HasProgramsIn lines texts expanded → lines ≡ [] → expanded ≡ []
none_made lines texts expanded is none = subst (λ (ls : List Line). HasProgramsIn ls texts expanded) none is

replaced_one : (name : Option (List ℕ)) (line : Line) (lines : List Line) (texts : List (List ℕ)) (expanded : List ℕ) → AllFree line.octets
    → EndsAmong line.octets line.ended lines
    → ((texts : List (List ℕ)) (rest : List ℕ) → HasProgramsIn lines texts rest → AreReplaced lines texts (lines_of rest))
    → ReplacesAt name line lines texts expanded
    → (other : Line) × (others : List Line) × (lines_of expanded ≡ other ∷ others) × ReplacedAt name line lines texts other others
replaced_one None line lines texts expanded f ends more (rest, made, is) =
    (line, lines_of rest, ap lines_of is ∙ line_again line.octets line.ended lines rest f ends (none_made lines texts rest made), (refl, more texts rest made))
replaced_one (Some name) line lines texts expanded f ends more (code, program, (rest, made, is)) = (
  record { octets = load_command code; ended = true },
  lines_of rest,
  ap lines_of is ∙ load_again code rest,
  (code, program, no_return (load_command code) (command_inside code), more (later_texts texts) rest made),
)

replaced_all : (lines : List Line) (texts : List (List ℕ)) (expanded : List ℕ) → AreCut lines → HasProgramsIn lines texts expanded → AreReplaced lines texts (lines_of expanded)
replaced_all [] texts expanded c is = ap lines_of is
replaced_all (line ∷ lines) texts expanded c is =
    let one = replaced_one (named_rules line) line lines texts expanded c.0 c.1 (λ texts rest made. replaced_all lines texts rest c.2 made) is in
    subst (AreReplaced (line ∷ lines) texts) (sym one.2) one.3

count_one : (name : Option (List ℕ)) (line : Line) (lines : List Line) (texts : List (List ℕ)) (other : Line) (others : List Line)
    → ((texts : List (List ℕ)) → AreReplaced lines texts others → length others ≡ length lines)
    → ReplacedAt name line lines texts other others → length others ≡ length lines
count_one None line lines texts other others more is = more texts is.1
count_one (Some name) line lines texts other others more (code, program, says, is) = more (later_texts texts) is

as_many : (lines : List Line) (texts : List (List ℕ)) (others : List Line) → AreReplaced lines texts others → length others ≡ length lines
as_many [] texts others is = ap length is
as_many (line ∷ lines) texts [] is = absurd is
as_many (line ∷ lines) texts (other ∷ others) is =
    ap suc (count_one (named_rules line) line lines texts other others (λ texts is. as_many lines texts others is) is)

pub keep_lines : ProgramsKeepLines
keep_lines script texts expanded is =
    let all = replaced_all (lines_of script) texts expanded (cut script) is in
    record { replaced = all; as_many = as_many (lines_of script) texts (lines_of expanded) all }
