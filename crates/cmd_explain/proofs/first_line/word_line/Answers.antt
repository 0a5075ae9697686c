-- The first line leaves what follows its line feed, or nothing.
use Rattle.std.proofs.Common.{◌≡◌, ◌+◌, ◌&&◌, ap, arith, sym, ◌∙◌, nat_le, drop, take, length, true, false, Bool, List, [], ℕ, Some, None, if◌then◌else◌}
use Rattle.std.proofs.lemmas.List.{drop_all}
use Rattle.text_io.specs.Limits.{most_line_octets}
use Rattle.text_io.specs.Words.{words_of}
use Rattle.cmd_explain.specs.InputKinds.{is_alone, is_word_line}
use Rattle.cmd_explain.proofs.WordFront.{ended_line, last_line, word_at, word_whole}
use Rattle.cmd_explain.proofs.first_line.word_line.Goals as goal

pub returns-then-is_word_line : goal.returns-then-is_word_line
returns-then-is_word_line c =
    let octets = c.args.octets.now in
    let at = c.in-Some.at in
    let line = take at octets in
    let is : is_word_line c.args.word.now (ended_line line) ≡ true =
    sym (c.is_word_line.ensures ∙ ap (λ (xs : List ℕ). nat_le (length line) most_line_octets && is_alone c.args.word.now (words_of xs)) c.before_return.ensures) ∙ c.if-is_word_line.true in
    sym (word_at c.args.word.now octets at c.in-Some.ensures.place c.in-Some.ensures.feed c.in-Some.ensures.before
    ∙ ap (λ (b : Bool). if b then Some (drop (at + 1) octets) else None) is)

pub returns-else-is_word_line : goal.returns-else-is_word_line
returns-else-is_word_line c =
    let octets = c.args.octets.now in
    let at = c.in-Some.at in
    let line = take at octets in
    let is : is_word_line c.args.word.now (ended_line line) ≡ false =
    sym (c.is_word_line.ensures ∙ ap (λ (xs : List ℕ). nat_le (length line) most_line_octets && is_alone c.args.word.now (words_of xs)) c.before_return.ensures) ∙ c.if-is_word_line.false in
    sym (word_at c.args.word.now octets at c.in-Some.ensures.place c.in-Some.ensures.feed c.in-Some.ensures.before
    ∙ ap (λ (b : Bool). if b then Some (drop (at + 1) octets) else None) is)

pub returns-then-is_word_line-2 : goal.returns-then-is_word_line-2
returns-then-is_word_line-2 c =
    let octets = c.args.octets.now in
    let is : is_word_line c.args.word.now (last_line octets) ≡ true = sym c.is_word_line-in-None.ensures ∙ c.if-is_word_line-2.true in
    ap (λ (xs : List ℕ). Some xs) (drop_all (length octets) octets (omega arith))
    ∙ sym (word_whole c.args.word.now octets c.in-None.ensures.none ∙ ap (λ (b : Bool). if b then Some [] else None) is)

pub returns-else-is_word_line-2 : goal.returns-else-is_word_line-2
returns-else-is_word_line-2 c =
    let octets = c.args.octets.now in
    let is : is_word_line c.args.word.now (last_line octets) ≡ false = sym c.is_word_line-in-None.ensures ∙ c.if-is_word_line-2.false in
    sym (word_whole c.args.word.now octets c.in-None.ensures.none ∙ ap (λ (b : Bool). if b then Some [] else None) is)
