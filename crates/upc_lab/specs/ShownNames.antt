-- How a message shows the name of a file.
use Rattle.std.specs.Prelude.{ℕ, ◌&&◌, not, Bool, if◌then◌else◌, List, chars}
use Rattle.std.specs.Char.{is_control}
use Rattle.std.specs.List.{list_any}
use Rattle.std.specs.Str.{is_utf8}
use Rattle.cmd_setups.specs.FileNames.{escaped_name}

-- Whether a name is a text for a terminal: UTF-8 without control characters.
abbrev pub is_terminal_text : List ℕ → Bool
is_terminal_text name = is_utf8 name && not (list_any is_control (chars name))

-- The name as it is, if it is a text for a terminal; otherwise the name escaped.
abbrev pub shown_name : List ℕ → List ℕ
shown_name name = if is_terminal_text name then name else escaped_name name
