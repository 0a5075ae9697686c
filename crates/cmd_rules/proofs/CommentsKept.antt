-- What the loops over comments keep.
use Rattle.std.proofs.Common.{◌≡◌, ℕ, ◌+◌, ◌-◌, ◌<◌, ◌≤◌, ◌==◌, ◌≢◌, ◌&&◌, Bool, true, false, not, if◌then◌else◌, List, [], ◌∷◌, ◌++◌, codes, drop, take, length, get_or, refl, sym, ap, ◌∙◌, arith, append-nil, append_assoc}
use Rattle.std.proofs.lemmas.Bool.Decides.{nat_tests}
use Rattle.std.proofs.lemmas.List.{drop_all, drop_more, get_or-drop, take_all, take_more}
use Rattle.text_io.specs.Lines.{lines_of}
use Rattle.rules_text.specs.declared.place.RulePlace.{RulePlace}
use Rattle.cmd_rules.specs.RuleBegins.{begin_at, begin_text}
use Rattle.cmd_rules.specs.AsmText.{comment_at, comment_line, comments_from, from_column, lines_with, next_start_from_end, rule_comment}
use Rattle.cmd_rules.specs.declared.annotating.Comment.{Comment}
use Rattle.cmd_rules.specs.inner.Comments.{comment_if, otherwise_comment, written_at}
use Rattle.cmd_rules.proofs.Annotated.{IsFirst, lines_more}

-- After more octets than there are, none are left.
pub nothing_left : (count : ℕ) (octets : List ℕ) → length octets < count → [] ≡ drop count octets
nothing_left count octets h = sym (drop_all count octets (omega (arith, h)))

-- ---- comments

none_if : (one other : Bool) (text : List ℕ) → other ≡ true → (if one && not other then text else []) ≡ []
none_if true other text e = rw e refl
none_if false other text e = refl

own_if : (one other : Bool) (text : List ℕ) → other ≡ false → (if one && not other then text else []) ≡ (if one then text else [])
own_if true other text e = rw e refl
own_if false other text e = refl

equal_true : (one other : ℕ) → one ≡ other → (one == other) ≡ true
equal_true one other e = grind (arith, nat_tests)

equal_false : (one other : ℕ) → one ≢ other → (one == other) ≡ false
equal_false one other e = grind (arith, nat_tests)

-- A line without code has no comment.
pub comments_skip : (lines : List (List ℕ)) (begins : List RulePlace) (starts_from_end : List ℕ) (comments : List Comment) (place size next : ℕ) → place < length starts_from_end
    → size ≡ get_or starts_from_end place 0 → next ≡ next_start_from_end (drop (place + 1) starts_from_end) → size ≡ next
    → ((left : ℕ) → written_at left comments ++ comments_from lines begins left place (drop place starts_from_end) ≡ comments_from lines begins left 0 starts_from_end)
    → (left : ℕ) → written_at left comments ++ comments_from lines begins left (place + 1) (drop (place + 1) starts_from_end) ≡ comments_from lines begins left 0 starts_from_end
comments_skip lines begins starts_from_end comments place size_is next_is lt sized nexts equal made left =
    let size = get_or starts_from_end place 0 in
    let next = next_start_from_end (drop (place + 1) starts_from_end) in
    let same : (size == next) ≡ true = equal_true size next (sym sized ∙ equal ∙ nexts) in
    let after = comments_from lines begins left (place + 1) (drop (place + 1) starts_from_end) in
    let none : comment_at lines begins left place size next ≡ [] = none_if (size == left) (size == next) (rule_comment lines (begin_at begins place)) same in
    let cut : comments_from lines begins left place (drop place starts_from_end) ≡ after =
    ap (λ (ns : List ℕ). comments_from lines begins left place ns) (drop_more starts_from_end place 0 lt) ∙ ap (λ (t : List ℕ). t ++ after) none in
    ap (λ (t : List ℕ). written_at left comments ++ t) (sym cut) ∙ made left

written_last : (left : ℕ) (comments : List Comment) (comment : Comment) → written_at left (comments ++ comment ∷ []) ≡ written_at left comments ++ comment_if left comment
written_last left [] comment = append-nil (comment_if left comment)
written_last left (first ∷ more) comment =
    ap (λ (t : List ℕ). comment_if left first ++ t) (written_last left more comment) ∙ sym (append_assoc (comment_if left first) (written_at left more) (comment_if left comment))

-- A line with code has its comment.
pub comments_push : (lines : List (List ℕ)) (begins : List RulePlace) (starts_from_end : List ℕ) (comments new : List Comment) (comment : Comment) (rest : List (List ℕ)) (line : List ℕ) (place size next before : ℕ) (begin : RulePlace) → place < length starts_from_end
    → size ≡ get_or starts_from_end place 0 → next ≡ next_start_from_end (drop (place + 1) starts_from_end) → size ≢ next
    → begin ≡ begin_at begins place → before ≡ begin.line - 1 → rest ≡ drop before lines → line ≡ get_or rest 0 []
    → comment.size ≡ size → comment.text.items ≡ comment_line (begin_text begin ++ (codes ": " ++ from_column begin.column line)) → new ≡ comments ++ comment ∷ []
    → ((left : ℕ) → written_at left comments ++ comments_from lines begins left place (drop place starts_from_end) ≡ comments_from lines begins left 0 starts_from_end)
    → (left : ℕ) → written_at left new ++ comments_from lines begins left (place + 1) (drop (place + 1) starts_from_end) ≡ comments_from lines begins left 0 starts_from_end
comments_push lines begins starts_from_end comments new comment rest line place size_is next_is before begin lt size_same next_same other placed_rules e cut first size_kept texted pushed made left =
    let size = get_or starts_from_end place 0 in
    let next = next_start_from_end (drop (place + 1) starts_from_end) in
    let differs : (size == next) ≡ false = equal_false size next (λ same. other (size_same ∙ same ∙ sym next_same)) in
    let sized : comment.size ≡ size = size_kept ∙ size_same in
    let after = comments_from lines begins left (place + 1) (drop (place + 1) starts_from_end) in
    let at : before + 0 ≡ begin.line - 1 = omega (arith, e) in
    let found : line ≡ get_or lines (begin.line - 1) [] =
    first ∙ ap (λ (ls : List (List ℕ)). get_or ls 0 []) cut ∙ get_or-drop before lines 0 [] ∙ ap (λ (k : ℕ). get_or lines k []) at in
    let text : comment.text.items ≡ rule_comment lines (begin_at begins place) =
    texted ∙ ap (λ (l : List ℕ). comment_line (begin_text begin ++ (codes ": " ++ from_column begin.column l))) found ∙ ap (λ (b : RulePlace). rule_comment lines b) placed_rules in
    let here : comment_if left comment ≡ comment_at lines begins left place size next =
    ap (λ (n : ℕ). if n == left then comment.text.items else []) sized ∙ ap (λ (t : List ℕ). if size == left then t else []) text
    ∙ sym (own_if (size == left) (size == next) (rule_comment lines (begin_at begins place)) differs) in
    let whole : comments_from lines begins left place (drop place starts_from_end) ≡ comment_at lines begins left place size next ++ after =
    ap (λ (ns : List ℕ). comments_from lines begins left place ns) (drop_more starts_from_end place 0 lt) in
    ap (λ (cs : List Comment). written_at left cs ++ after) pushed ∙ ap (λ (t : List ℕ). t ++ after) (written_last left comments comment)
    ∙ append_assoc (written_at left comments) (comment_if left comment) after ∙ ap (λ (t : List ℕ). written_at left comments ++ (t ++ after)) here
    ∙ ap (λ (t : List ℕ). written_at left comments ++ t) (sym whole) ∙ made left

pub comments_ended : (lines : List (List ℕ)) (begins : List RulePlace) (starts_from_end : List ℕ) (comments : List Comment) (place : ℕ) → length starts_from_end ≤ place
    → ((left : ℕ) → written_at left comments ++ comments_from lines begins left place (drop place starts_from_end) ≡ comments_from lines begins left 0 starts_from_end)
    → (left : ℕ) → written_at left comments ++ otherwise_comment left ≡ comments_from lines begins left 0 starts_from_end
comments_ended lines begins starts_from_end comments place le made left =
    ap (λ (ns : List ℕ). written_at left comments ++ comments_from lines begins left place ns) (sym (drop_all place starts_from_end le)) ∙ made left

pub written_more : (left : ℕ) (comments : List Comment) (at : ℕ) (comment : Comment) (before old new : List ℕ) → at < length comments → comment ≡ get_or comments at comment
    → old ≡ before ++ written_at left (take at comments) → new ≡ old ++ comment_if left comment → new ≡ before ++ written_at left (take (at + 1) comments)
written_more left comments at comment before old new lt there is made =
    let cut : take (at + 1) comments ≡ take at comments ++ comment ∷ [] =
    take_more comments at comment lt ∙ ap (λ (c : Comment). take at comments ++ c ∷ []) (sym there) in
    made ∙ ap (λ (t : List ℕ). t ++ comment_if left comment) is ∙ append_assoc before (written_at left (take at comments)) (comment_if left comment)
    ∙ ap (λ (t : List ℕ). before ++ t) (sym (ap (written_at left) cut ∙ written_last left (take at comments) comment))

pub written_done : (left : ℕ) (comments : List Comment) (at : ℕ) (before old new : List ℕ) → length comments ≤ at → old ≡ before ++ written_at left (take at comments)
    → new ≡ old ++ otherwise_comment left → new ≡ before ++ (written_at left comments ++ otherwise_comment left)
written_done left comments at before old new le is made =
    made ∙ ap (λ (t : List ℕ). t ++ otherwise_comment left) (is ∙ ap (λ (cs : List Comment). before ++ written_at left cs) (take_all at comments le))
    ∙ append_assoc before (written_at left comments) (otherwise_comment left)

-- One more line of the listing, after its comments.
pub annotated_more : (lines : List (List ℕ)) (begins : List RulePlace) (starts_from_end : List ℕ) (comments : List Comment) (count place left : ℕ) (begun line rest old mid new all : List ℕ)
    → ((left : ℕ) → written_at left comments ++ otherwise_comment left ≡ comments_from lines begins left 0 starts_from_end) → left ≡ count - place → IsFirst begun line rest
    → old ++ lines_with (λ place. comments_from lines begins (count - place) 0 starts_from_end) place (lines_of begun) ≡ all
    → mid ≡ old ++ (written_at left comments ++ otherwise_comment left) → new ≡ mid ++ line
    → new ++ lines_with (λ place. comments_from lines begins (count - place) 0 starts_from_end) (place + 1) (lines_of rest) ≡ all
annotated_more lines begins starts_from_end comments count place left begun line rest old mid new all each is first so made added =
    lines_more (λ place. comments_from lines begins (count - place) 0 starts_from_end) place begun line rest old mid new all first so
    (made ∙ ap (λ (t : List ℕ). old ++ t) (each left ∙ ap (λ (n : ℕ). comments_from lines begins n 0 starts_from_end) is)) added
