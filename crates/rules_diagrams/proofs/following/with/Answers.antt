use Rattle.std.proofs.Common.{◌+◌, sym, subst}
use Rattle.rules_diagrams.specs.inner.Following.{IsFollowed, IsPutInto}
use Rattle.rules_diagrams.specs.declared.contents.Contents.{Contents}
use Rattle.rules_diagrams.specs.declared.contents.Followed.TheVariants.{Continues}
use Rattle.rules_diagrams.specs.declared.contents.Made.{Made}
use Rattle.rules_diagrams.proofs.FollowSteps.{made_follows}
use Rattle.rules_diagrams.proofs.following.with.Goals as goal

pub returns-in-Ends : goal.returns-in-Ends
returns-in-Ends c = λ i made. subst (λ (m : Made). IsPutInto c.args.register i c.args.contents.now m) c.in-Ends.is made c.args.place

pub returns-in-Word : goal.returns-in-Word
returns-in-Word c = λ i made.
    let contents = c.args.contents.now in
    subst (λ (after : Contents). IsFollowed i c.args.place contents (Continues (c.args.place + 1) after)) (sym c.with_word.ensures)
    (made_follows c.args.register i c.args.place contents c.in-Word.word (subst (λ (m : Made). IsPutInto c.args.register i contents m) c.in-Word.is made))
