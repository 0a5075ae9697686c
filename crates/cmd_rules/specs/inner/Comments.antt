-- The comments of the lines of rules, as the printer of sources keeps them.
use Rattle.std.specs.Prelude.{ℕ, ◌==◌, if◌then◌else◌, List, [], ◌∷◌, ◌++◌, codes}
use Rattle.cmd_rules.specs.AsmText.{comment_line}
use Rattle.cmd_rules.specs.declared.annotating.Comment.{Comment}

-- The comment before the last instruction, if that many are left.
abbrev pub otherwise_comment : ℕ → List ℕ
otherwise_comment left = if left == 1 then comment_line (codes "otherwise") else []

-- The comment, if that many instructions are left where its line's code begins.
abbrev pub comment_if : ℕ → Comment → List ℕ
comment_if left comment = if comment.size == left then comment.text.items else []

-- The comments that are put where this many instructions are left.
abbrev pub written_at : ℕ → List Comment → List ℕ
written_at left [] = []
written_at left (comment ∷ more) = comment_if left comment ++ written_at left more
