-- Each character is shown, in order.
use Rattle.std.proofs.Common.{◌∙◌, ◌++◌, ap, ap₂, map, sym}
use Rattle.std.specs.Prelude.{chars, encode_utf8_all}
use Rattle.std.specs.Char.{encode_utf8}
use Rattle.std.proofs.lemmas.Iterator.{YieldsList-from_chars}
use Rattle.std.proofs.lemmas.Iterator.Consumers.{YieldsList-end}
use Rattle.std.proofs.lemmas.List.{map-id}
use Rattle.text_command_line.specs.ShownWords.{shown_character}
use Rattle.text_command_line.proofs.WordLemmas.{character-shown}
use Rattle.text_command_line.proofs.words.shown.Goals as goal

pub loop-character-preserved : goal.loop-character-preserved
loop-character-preserved c =
    c.in_ok-push.ensures.bytes
    ∙ ap₂ (λ before next. before ++ encode_utf8 next) c.loop-character.invariant c.shown_character.ensures
    ∙ sym (character-shown c.loop-character.yielded c.in-Some.character)

pub returns : goal.returns
returns c =
    let all = YieldsList-end (YieldsList-from_chars c.deref.result.now c.deref.utf8 cc) c.loop-character.yielded _ c.loop-character.yielded_by _ _ c.in-None.is c.next.ensures.steps in
    c.loop-character.invariant
    ∙ ap (λ characters. encode_utf8_all (map shown_character characters))
    (sym (map-id c.loop-character.yielded) ∙ all.0 ∙ ap chars (c.deref.ensures ∙ c.in_ok-text.ensures.lossy))
