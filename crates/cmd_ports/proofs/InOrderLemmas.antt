-- Answers that are printed one after another.
use Rattle.std.proofs.Common.{◌≡◌, ℕ, ◌+◌, ◌<◌, List, [], ◌∷◌, ◌++◌, length, take, get_or, refl, ap, sym, ◌∙◌, subst}
use Rattle.std.proofs.lemmas.List.{take_more, append_assoc, append-nil}
use Rattle.text_io.specs.Devices.{Adds}
use Rattle.gen_arena.specs.declared.id.Id.{Id}
use Rattle.upc_cell.specs.declared.side.Side.{Side}
use Rattle.text_script.specs.declared.dealing.Answerer.{Answerer}
use Rattle.line_record.specs.declared.fault.LineFault.TheVariants.{TooLate, Back, Full, NoMemory}
use Rattle.card_core.specs.declared.answer.Unjudged.{Unjudged}
use Rattle.card_core.specs.declared.answer.Unjudged.TheVariants as unjudged
use Rattle.card_core.specs.Sections.{unjudged_answer}
use Rattle.text_card.specs.Replies.{number_of_judging}
use Rattle.cmd_ports.specs.inner.InOrder.{Unprinted, IsTextOfAnswerer, AllPrint, after_all, after_answerer}

-- The text of one more answerer follows those of the others.
pub one_more : (side : Side) (names : List Id) (rest : Unprinted) (order : List Answerer) (answerer : Answerer) (text here : List ℕ)
    → AllPrint side names rest order text → IsTextOfAnswerer side names (after_all order rest) answerer here
    → AllPrint side names rest (order ++ answerer ∷ []) (text ++ here)
one_more side names rest [] answerer text here all one =
    (here, [], ap (λ xs. xs ++ here) all ∙ sym (append-nil here), one, refl)
one_more side names rest (first ∷ order) answerer text here all one =
    let later = one_more side names (after_answerer first rest) order answerer all.1 here all.4 one in
    (all.0, all.1 ++ here, ap (λ xs. xs ++ here) all.2 ∙ append_assoc all.0 all.1 here, all.3, later)

pub after_more : (order : List Answerer) (answerer : Answerer) (rest : Unprinted)
    → after_all (order ++ answerer ∷ []) rest ≡ after_answerer answerer (after_all order rest)
after_more [] answerer rest = refl
after_more (first ∷ order) answerer rest = after_more order answerer (after_answerer first rest)

-- If the texts of the first `k` answerers were appended, and then that of the next, those of the first `k` + 1 were
-- appended.
pub next_stored : (side : Side) (names : List Id) (start now : Unprinted) (order : List Answerer) (k : ℕ) (d : Answerer)
    (before so_far after : List ℕ) → k < length order → now ≡ after_all (take k order) start
    → Adds (AllPrint side names start (take k order)) before so_far
    → Adds (IsTextOfAnswerer side names now (get_or order k d)) so_far after
    → Adds (AllPrint side names start (take (k + 1) order)) before after
next_stored side names start now order k d before so_far after within is all one =
    let P : List Answerer → Type 0 = λ xs. AllPrint side names start xs (all.0 ++ one.0) in
    let here : IsTextOfAnswerer side names (after_all (take k order) start) (get_or order k d) one.0 =
    subst (λ (rest : Unprinted). IsTextOfAnswerer side names rest (get_or order k d) one.0) is one.2 in
    let stored_all = subst P (sym (take_more order k d within)) (one_more side names start (take k order) (get_or order k d) all.0 one.0 all.2 here) in
    (all.0 ++ one.0, one.1 ∙ ap (λ xs. xs ++ one.0) all.1 ∙ append_assoc before all.0 one.0, stored_all)

pub next_rest : (start now next : Unprinted) (order : List Answerer) (k : ℕ) (d : Answerer) → k < length order
    → now ≡ after_all (take k order) start → next ≡ after_answerer (get_or order k d) now → next ≡ after_all (take (k + 1) order) start
next_rest start now next order k d within is one =
    one ∙ ap (after_answerer (get_or order k d)) is ∙ sym (after_more (take k order) (get_or order k d) start)
    ∙ ap (λ (xs : List Answerer). after_all xs start) (sym (take_more order k d within))

-- A cell that wasn't judged has no program that named its contract.
pub unjudged_unnumbered : (names : List Id) (reason : Unjudged) → number_of_judging names (unjudged_answer reason) ≡ 0
unjudged_unnumbered names unjudged.NoConnection = refl
unjudged_unnumbered names unjudged.Released = refl
unjudged_unnumbered names unjudged.Stale = refl
unjudged_unnumbered names (unjudged.LineFault TooLate) = refl
unjudged_unnumbered names (unjudged.LineFault (Back last)) = refl
unjudged_unnumbered names (unjudged.LineFault Full) = refl
unjudged_unnumbered names (unjudged.LineFault NoMemory) = refl
