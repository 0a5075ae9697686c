-- The texts of the desk, one for each of its lines.
use Rattle.std.specs.Prelude.{◌≡◌, ℕ, List, [], ◌∷◌, ◌++◌, Option, MatchOption}
use Rattle.gen_arena.specs.declared.id.Id.{Id}
use Rattle.upc_cell.specs.declared.side.Side.{Side}
use Rattle.text_io.specs.Words.{words_of}
use Rattle.text_words.specs.FaultLines.{bad_line}
use Rattle.text_script.specs.ScriptCommands.{Command, command_of}
use Rattle.cmd_ports.specs.LineAnswers.{MayObey, Refuses}

-- The answers grew by a text that leads from these names to those.
abbrev pub AddsReply : (List Id → List ℕ → List Id → Type 0) → List Id → List Id → List ℕ → List ℕ → Type 0
AddsReply Goes names names' old new = (text : List ℕ) × (new ≡ old ++ text) × Goes names text names'

-- The answer to a command, or BadLine if there is none.
abbrev pub MayObeySeen : Side → Option Command → List Id → List ℕ → List Id → Type 0
MayObeySeen side seen names text names' = MatchOption seen (Refuses bad_line names text names') (λ command. MayObey side command names text names')

-- The answer of the desk to a line with these words.
abbrev pub MayObeyLine : Side → List (List ℕ) → List Id → List ℕ → List Id → Type 0
MayObeyLine side words names text names' = MayObeySeen side (command_of side words) names text names'

-- One text for each line of the desk, in order.
abbrev pub ObeysEach : Side → List (List ℕ) → List Id → List (List ℕ) → List Id → Type 0
ObeysEach side [] names [] names' = names' ≡ names
ObeysEach side (line ∷ lines) names (text ∷ texts) names' =
    (next : List Id) × MayObeyLine side (words_of line) names text next × ObeysEach side lines next texts names'
ObeysEach side _ names _ names' = ⊥
