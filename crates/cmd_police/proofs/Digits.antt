-- The digits of a program, read again.
use Rattle.std.proofs.Common.{◌≡◌, inl, ℕ, zero, suc, ◌/◌, ◌%◌, ◌<◌, ◌&&◌, not, Bool, true, false, List, [], ◌∷◌, ◌++◌, codes, length, get_or, refl, ap, subst, ◌∙◌, arith}
use Rattle.std.specs.Result.{result_ok}
use Rattle.std.proofs.lemmas.Bool.{and_from, and_parts, not-true}
use Rattle.bpf_code.proofs.Plainly.{plainly-spells}
use Rattle.bpf_code.proofs.Public.{SpellsCode-length}
use Rattle.bpf_code.specs.Encoding.{code_octets}
use Rattle.bpf_code.specs.OctetSpelling.{SpellsCode, SpellsPlainly}
use Rattle.bpf_code.specs.declared.instr.Instr.{Instr}
use Rattle.bpf_verify.specs.Accepted.{IsAccepted}
use Rattle.hex.proofs.HexLemmas.{decode_of-encode_lower, length-encode_with}
use Rattle.hex.specs.Hex.{IsBytes, encode_lower, encode_with, lower_digits}
use Rattle.text_io.proofs.Public.{first-word, one-word}
use Rattle.text_io.specs.Words.{is_blank, words_of}
use Rattle.cmd_programs.proofs.Public.{reads-once}
use Rattle.cmd_programs.specs.Program.{ReadsAs, is_program}
use Rattle.text_script.specs.ScriptCommands.{command_of}
use Rattle.cmd_police.specs.RulesFiles.{IsReadAgain, program_digits}
use Rattle.cmd_police.specs.SetupLaws.{LoadCommandsLoad}

-- Octets that spell a code and are written in digits are read again.
pub read_again : (octets : List ℕ) (code : List Instr) → octets ≡ code_octets code → SpellsPlainly octets code → IsBytes octets → IsReadAgain code
read_again octets code is plain bytes =
    let fits : IsBytes (code_octets code) = subst IsBytes is bytes in
    record {
      digits = ap result_ok (decode_of-encode_lower (code_octets code) fits);
      spelled = plainly-spells (code_octets code) code (subst (λ (os : List ℕ). SpellsPlainly os code) is plain);
    }

-- ---- digits are no blanks

-- Whether the octet is none.
abbrev is_dark : ℕ → Bool
is_dark octet = not (is_blank octet)

-- Whether this is so for every octet.
abbrev all_dark : List ℕ → Bool
all_dark [] = true
all_dark (octet ∷ rest) = is_dark octet && all_dark rest

dark_at : (line : List ℕ) (at : ℕ) → all_dark line ≡ true → is_dark (get_or line at 0) ≡ true
dark_at [] at h = refl
dark_at (octet ∷ line) zero h = (and_parts (is_dark octet) (all_dark line) h).0
dark_at (octet ∷ line) (suc at) h = dark_at line at (and_parts (is_dark octet) (all_dark line) h).1

digits_dark : (octets : List ℕ) → all_dark (encode_lower octets) ≡ true
unfolding encode_with
digits_dark [] = refl
digits_dark (octet ∷ octets) =
    and_from _ _ (dark_at lower_digits (octet / 16) refl) (and_from _ _ (dark_at lower_digits (octet % 16) refl) (digits_dark octets))

no_blank : (line : List ℕ) → all_dark line ≡ true → (k : ℕ) → k < length line → is_blank (get_or line k 0) ≡ false
no_blank line h k below = not-true _ (dark_at line k h)

-- ---- the command

some_digits : (code : List Instr) → IsAccepted code → SpellsCode (code_octets code) code → 0 < length (program_digits code)
some_digits code accepted spelled =
    let least = accepted.sized.least in
    let eights = SpellsCode-length (code_octets code) code spelled in
    let twice = length-encode_with lower_digits (code_octets code) in
    omega (arith, least, eights, twice)

two_words : (digits : List ℕ) → 0 < length digits → all_dark digits ≡ true → words_of (codes "load " ++ digits) ≡ codes "load" ∷ digits ∷ []
two_words digits some dark =
    first-word (codes "load") digits 32 (omega arith) (no_blank (codes "load") refl) refl
    ∙ ap (λ (words : List (List ℕ)). codes "load" ∷ words) (one-word digits some (no_blank digits dark))

pub commands_load : LoadCommandsLoad
commands_load side text code program =
    let again = program.read_again in
    let reads : ReadsAs (code_octets code) (is_program code) = inl (code, again.spelled, (program.accepted, refl)) in
    record {
      command = ap (command_of side) (two_words (program_digits code) (some_digits code program.accepted again.spelled) (digits_dark (code_octets code)));
      digits = again.digits;
      program = reads;
      only = λ reading is. reads-once (code_octets code) reading (is_program code) is reads;
    }
