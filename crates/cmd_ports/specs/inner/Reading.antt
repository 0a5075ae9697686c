-- The stored script, as a state of the reading.
use Rattle.std.specs.Prelude.{◌≡◌, ℕ, Bool, List}
use Rattle.card_core.specs.declared.shape.Shape.{Shape}
use Rattle.text_script.specs.Dealing.{text_of}
use Rattle.cmd_ports.specs.PortsText.{ScriptReading}

-- A script that stores this much of a card and these octets is in that state: the octets are its lines, each ended with a
-- line feed.
abbrev pub IsStoredReading : Bool → Shape → List ℕ → ScriptReading → Type 0
IsStoredReading opened shape octets reading =
    (reading ≡ record { opened = opened; shape = shape; lines = reading.lines }) × (octets ≡ text_of reading.lines)
