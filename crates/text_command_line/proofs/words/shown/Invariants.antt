-- The characters so far are shown.
use Rattle.std.proofs.Common.{◌≡◌, map}
use Rattle.std.specs.Prelude.{encode_utf8_all}
use Rattle.std.specs.String.{string_bytes}
use Rattle.text_command_line.specs.ShownWords.{shown_character}
use Rattle.text_command_line.proofs.words.shown.Given as goal

abbrev pub invariant-loop-character : goal.invariant-loop-character
invariant-loop-character l = string_bytes l.word ≡ encode_utf8_all (map shown_character l.yielded)
