-- Digits, one by one.
use Rattle.std.specs.Prelude.{ℕ, ◌+◌, ◌-◌, ◌*◌, if◌then◌else◌, Option, None}
use Rattle.text_script.specs.ScriptWords.{most_number, up_to}
use Rattle.text_io.specs.Words.{is_digit}

-- The value with one more digit appended, if the octet is a digit and the value isn't too large.
abbrev pub with_digit : ℕ → ℕ → Option ℕ
with_digit high octet = if is_digit octet then up_to most_number (high * 10 + (octet - 48)) else None
