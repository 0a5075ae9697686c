-- A line without words is passed over, the first line with words opens a card, and each later one is stored.
use Rattle.std.proofs.Common.{rules, true, false, ℕ, List, [], ◌∷◌, ◌++◌, Some, None, ◌≡◌, ap, sym, ◌∙◌, append-nil}
use Rattle.text_io.specs.Words.{words_of, is_silent}
use Rattle.card_core.specs.Shapes.{shape_fault}
use Rattle.text_card.specs.CardLine.{card_line_shape}
use Rattle.cmd_ports.proofs.ReadingText.{opens, skips, stores}
use Rattle.cmd_ports.proofs.script.ScriptMachine.answer.Goals as goal

pub returns-then-is_silent : goal.returns-then-is_silent
returns-then-is_silent c =
    let silent : is_silent (words_of c.args.line.now) ≡ true = search rules in (
      [],
      sym (append-nil _),
      λ reading sound shown. skips c.args.self.now.is_open c.args.self.now.shape c.args.self.now.lines.items c.args.line.now silent reading shown,
    )

pub returns : goal.returns
returns c =
    let speaks : is_silent (words_of c.args.line.now) ≡ false = search rules in
    let card : card_line_shape (words_of c.args.line.now) ≡ Some c.in-Some.shape = search rules in
    let fits : shape_fault c.in-Some.shape ≡ None = search rules in (
      [],
      sym (append-nil _),
      λ reading sound shown. opens c.args.self.now.is_open c.args.self.now.shape c.in-Some.shape c.args.self.now.lines.items c.args.line.now
          speaks c.if-self.false card fits reading shown,
    )

pub returns-then-self : goal.returns-then-self
returns-then-self c =
    let speaks : is_silent (words_of c.args.line.now) ≡ false = search rules in
    let was : c.replace-lines.result.items ≡ c.args.self.now.lines.items = search rules in
    let grown : c.push.new.self.items ≡ (c.args.self.now.lines.items ++ c.args.line.now) ++ 10 ∷ [] = c.in_ok-push.ensures.items
    ∙ ap (λ (xs : List ℕ). xs ++ 10 ∷ []) (c.in_ok-extend_from_slice.ensures.items ∙ ap (λ (xs : List ℕ). xs ++ c.args.line.now) was) in (
      [],
      sym (append-nil _),
      λ reading sound shown. stores c.args.self.now.is_open c.args.self.now.shape c.args.self.now.lines.items c.push.new.self.items c.args.line.now
          speaks c.if-self.true grown reading shown,
    )
