-- The lines of a script before the first time.
use Rattle.std.proofs.Common.{◌≡◌, ℕ, ◌+◌, List, [], ◌∷◌, ◌++◌, Option, None, append_assoc, refl, sym, ap, ◌∙◌, arith, length, take}
use Rattle.std.proofs.lemmas.List.{length-append, length-take}
use Rattle.text_io.specs.Lines.{Line, lines_of}
use Rattle.cmd_setups.specs.TimedLines.{octets_before_times}
use Rattle.cmd_setups.specs.ScriptLine.{BeginsWithLine}

take_length : {X : Type 0} (xs ys : List X) → take (length xs) (xs ++ ys) ≡ xs
take_length [] ys = refl
take_length (x ∷ xs) ys = ap (λ l. x ∷ l) (take_length xs ys)

-- One more line is passed.
pub passes : (script left whole rest : List ℕ) (at : ℕ) → at + length left ≡ length script → take at script ++ left ≡ script → whole ++ rest ≡ left
    → take (at + length whole) script ≡ take at script ++ whole
passes script left whole rest at counted split is =
    let front = take at script in
    let all : (front ++ whole) ++ rest ≡ script = append_assoc front whole rest ∙ ap (λ xs. front ++ xs) is ∙ split in
    let long : at + length whole ≡ length (front ++ whole) = omega (arith, length-take at script, counted, length-append front whole) in
    ap (λ n. take n script) long ∙ ap (λ xs. take (length (front ++ whole)) xs) (sym all) ∙ take_length (front ++ whole) rest

pub passes_all : (script left whole rest : List ℕ) (at : ℕ) → at + length left ≡ length script → take at script ++ left ≡ script → whole ++ rest ≡ left
    → take (at + length whole) script ++ rest ≡ script
passes_all script left whole rest at counted split is =
    ap (λ xs. xs ++ rest) (passes script left whole rest at counted split is) ∙ append_assoc (take at script) whole rest
    ∙ ap (λ xs. take at script ++ xs) is ∙ split

pub passes_line : (script left content whole rest : List ℕ) (times later : List (Option ℕ)) (size at : ℕ) → at + length left ≡ length script
    → take at script ++ left ≡ script → whole ++ rest ≡ left → BeginsWithLine left content size whole rest
    → take at script ++ octets_before_times (None ∷ later) (lines_of left) ≡ octets_before_times times (lines_of script)
    → take (at + length whole) script ++ octets_before_times later (lines_of rest) ≡ octets_before_times times (lines_of script)
passes_line script left content whole rest times later size at counted split is begins found =
    ap (λ xs. xs ++ octets_before_times later (lines_of rest)) (passes script left whole rest at counted split is)
    ∙ append_assoc (take at script) whole (octets_before_times later (lines_of rest))
    ∙ ap (λ xs. take at script ++ (xs ++ octets_before_times later (lines_of rest))) begins.octets
    ∙ ap (λ (lines : List Line). take at script ++ octets_before_times (None ∷ later) lines) (sym begins.lines) ∙ found
