-- The tokens and statements of the assembler, in terms of the definitions.
use Rattle.std.specs.Prelude.{option_copied, option_map}
use Rattle.bpf_asm.specs.Tokens.{Token, name, number, faulty, mark}
use Rattle.bpf_asm.specs.StatementSpelling.{Statement, plain, jump, branch}
use Rattle.bpf_asm.specs.Grammar.{SourceLine}
use Rattle.bpf_asm.specs.declared.line.LentLine.{LentLine}
use Rattle.bpf_asm.specs.declared.statement.LentStatement.{LentStatement}
use Rattle.bpf_asm.specs.declared.statement.LentStatement.TheVariants.{Plain, Jump, Branch}
use Rattle.bpf_asm.specs.declared.token.LentToken.{LentToken}
use Rattle.bpf_asm.specs.declared.token.LentToken.TheVariants.{Name, Number, Faulty, Mark}

-- A token that borrows from a line.
abbrev pub token_seen : LentToken → Token
token_seen (Name octets) = name octets.now
token_seen (Number value) = number value
token_seen Faulty = faulty
token_seen (Mark octet) = mark octet

-- A statement whose labels borrow from a line.
abbrev pub statement_seen : LentStatement → Statement
statement_seen (Plain i) = plain i
statement_seen (Jump target) = jump target.now
statement_seen (Branch test by met unmet) = branch test by (option_copied met) (option_copied unmet)

-- A line whose label and statement borrow from the source.
abbrev pub line_seen : LentLine → SourceLine
line_seen spelled = record { label = option_copied spelled.label; statement = option_map statement_seen spelled.statement }
