-- The tokens of a line before its comment.
use Rattle.std.specs.Prelude.{ℕ, List}
use Rattle.bpf_asm.specs.SourceLines.{without_comment}
use Rattle.bpf_asm.specs.Tokens.{Token, tokens_of}

-- The tokens of a line, or of the rest of a line, before its comment.
abbrev pub line_tokens : List ℕ → List Token
line_tokens text = tokens_of (without_comment text)
