-- The first line of a text.
use Rattle.std.proofs.Common.{◌≡◌, ◌≢◌, ℕ, ◌+◌, ◌<◌, true, false, List, [], ◌∷◌, ◌++◌, drop, take, length, get_or, refl, sym, ap, subst, ◌∙◌, arith, take-append-drop}
use Rattle.std.proofs.lemmas.List.{drop_all, drop_more, get_or-take, length-take, take_more}
use Rattle.text_io.specs.Lines.{lines_of, without_return}
use Rattle.text_io.proofs.LinesLemmas.{NoFeed, lines-at_feed, lines-of_rest}
use Rattle.cmd_setups.specs.ScriptLine.{BeginsWithLine}

pub cut_ended : (text : List ℕ) (at : ℕ) → at < length text → get_or text at 0 ≡ 10 → ((k : ℕ) → k < at → get_or text k 0 ≢ 10)
    → BeginsWithLine text (without_return (take at text)) at (take (at + 1) text) (drop (at + 1) text)
cut_ended text at lt feed before =
    let front = take at text in
    let free : NoFeed front = λ k below.
    let near : k < at = omega (arith, length-take at text, below) in
    subst (λ (o : ℕ). o ≢ 10) (sym (get_or-take at text k 0 near)) (before k near) in
    let parted : text ≡ front ++ 10 ∷ drop (at + 1) text =
    sym (take-append-drop at text) ∙ ap (λ (r : List ℕ). front ++ r) (drop_more text at 0 lt ∙ ap (λ (o : ℕ). o ∷ drop (at + 1) text) feed) in
    record {
      line = record { octets = front; ended = true };
      lines = ap lines_of parted ∙ lines-at_feed front (drop (at + 1) text) free;
      says = refl;
      counted = omega (arith, length-take at text, lt);
      octets = take_more text at 0 lt ∙ ap (λ (o : ℕ). front ++ o ∷ []) feed;
    }

pub cut_last : (text : List ℕ) → 0 < length text → ((k : ℕ) → k < length text → get_or text k 0 ≢ 10) → BeginsWithLine text text (length text) text (drop (length text) text)
cut_last text some free = record {
  line = record { octets = text; ended = false };
  lines = lines-of_rest text some free ∙ ap (λ (r : List ℕ). (record { octets = text; ended = false }) ∷ lines_of r) (sym (drop_all (length text) text (omega arith)));
  says = refl;
  counted = refl;
  octets = refl;
}
