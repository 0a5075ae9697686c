-- How a line of a script changes the stored card.
use Rattle.std.proofs.Common.{◌≡◌, ℕ, Bool, true, false, List, [], Option, Some, refl, sym, ap, subst, ◌∙◌, option_map, append-nil}
use Rattle.std.specs.Bool.{MatchBool}
use Rattle.text_io.specs.Words.{is_silent, words_of}
use Rattle.cmd_run.specs.RunText.{Card, CommandLine, PolicesCell, OpensOrObeys}
use Rattle.text_script.specs.ScriptCommands.{cell, command_of}
use Rattle.text_script.specs.inner.SpelledCell.{SpellsCell}
use Rattle.cmd_run.specs.ShownCard.{AnswersLine, Held, Moves}
use Rattle.cmd_run.proofs.ArrivalLemmas.{moves-cell}
use Rattle.cmd_run.proofs.MovesLemmas.{moves-line, moves-map}

-- A line with words is a command.
steps : (before after : Card) (line text : List ℕ) → is_silent (words_of line) ≡ false → CommandLine before (words_of line) text after
    → AnswersLine line before text after
steps before after line text asks printed =
    subst (λ (b : Bool). MatchBool b ((text ≡ []) × (Some (Some after) ≡ Some (Some before))) (OpensOrObeys (Some before) (words_of line) text (Some (Some after)))) (sym asks)
    (after, printed, refl)

pub moves-asked : (line old new : List ℕ) (held held' : Held) → is_silent (words_of line) ≡ false
    → Moves (λ before. CommandLine before (words_of line)) held held' old new → Moves (AnswersLine line) held held' old new
moves-asked line old new held held' asks moves =
    moves-map (λ before. CommandLine before (words_of line)) (AnswersLine line) held held' old new (λ before after text printed. steps before after line text asks printed) moves

-- A silent line.
silent-line : (before : Card) (line text : List ℕ) → text ≡ [] → is_silent (words_of line) ≡ true → AnswersLine line before text before
silent-line before line text none silent =
    subst (λ (b : Bool). MatchBool b ((text ≡ []) × (Some (Some before) ≡ Some (Some before))) (OpensOrObeys (Some before) (words_of line) text (Some (Some before)))) (sym silent)
    (none, refl)

pub moves-silent : (line old : List ℕ) (held : Held) → is_silent (words_of line) ≡ true → Moves (AnswersLine line) held held old old
moves-silent line old held silent = ([], sym (append-nil old), λ before led shows. (before, shows, silent-line before line [] refl silent))

-- The line of a cell that is policed.
pub moves-cell_line : (line : List ℕ) (moment : ℕ) (here old new : List ℕ) (held held' : Held) → SpellsCell line moment here
    → Moves (λ before. PolicesCell before moment here) held held' old new → Moves (AnswersLine line) held held' old new
moves-cell_line line moment here old new held held' is moves =
    let number : List ℕ = is.0 in
    let word : List ℕ = is.1 in
    let spells = is.4 in
    let side = held.core.shape.side in
    let asks : is_silent (words_of line) ≡ false = ap is_silent is.2 in
    let command : command_of side (words_of line) ≡ Some (cell moment word) =
    ap (command_of side) is.2 ∙ ap (λ (found : Option ℕ). option_map (λ ticks. cell ticks word) found) is.3 in
    moves-asked line old new held held' asks (moves-line side (words_of line) (cell moment word) held held' old new refl command
    (moves-cell moment word spells.0 here held held' old new spells.1 spells.2 spells.3 moves))
