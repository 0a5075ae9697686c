-- The comments about a text that was found, or that no memory was left for them.
use Rattle.std.specs.Prelude.{◌≡◌, ◌⊎◌, ℕ, List, Option}
use Rattle.cmd_explain_rules.specs.HintComments.{AreHintsFound, comment_front, no_memory_comment}

-- The comments about a text, or that no memory was left for them. Without a text there are none.
abbrev pub MayBeCommentsFound : Option (List ℕ) → List ℕ → Type 0
MayBeCommentsFound found comments = AreHintsFound comment_front found comments ⊎ (comments ≡ no_memory_comment)
