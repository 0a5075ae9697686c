-- The entries of a journal, written to the buffer one by one.
use Rattle.std.proofs.Common.{◌≡◌, ℕ, ◌+◌, ◌<◌, ◌≤◌, List, [], ◌∷◌, ◌++◌, length, take, drop, map, set, get_or, sym, ap, ◌∙◌, subst, arith, take-append-drop, take_all, length-set, drop-set-lt, le_of_eq}
use Rattle.std.proofs.lemmas.Grind.{drop_more_same}
use Rattle.std.proofs.lemmas.List.{map-append, take_more, take_more_set}
use Rattle.line_record.specs.declared.entry.Entry.{Entry}
use Rattle.upc_c.specs.CardJournal.{AreWritten, entry_for_c}
use Rattle.upc_c.specs.declared.entry.UpcEntry.{UpcEntry}

-- The first entries are at the front of the buffer, and the rest of the buffer is unchanged.
pub record WrittenOf (entries : List Entry) (before room : List UpcEntry) (count : ℕ) : Type 0 where
  pub sized : length room ≡ length before
  pub front : take count room ≡ map entry_for_c (take count entries)
  pub rest : drop count room ≡ drop count before

pub written-more : (entries : List Entry) (before room : List UpcEntry) (count : ℕ) (other : Entry) (entry : UpcEntry)
    → count < length entries → length entries ≤ length before → WrittenOf entries before room count
    → entry ≡ entry_for_c (get_or entries count other) → WrittenOf entries before (set room count entry) (count + 1)
written-more entries before room count other entry below fits so_far is =
    let within : count < length room = let sized = so_far.sized in omega arith in
    let next : count < count + 1 = omega arith in
    record {
      sized = length-set room count entry ∙ so_far.sized;
      front = take_more_set room count entry within ∙ ap (λ (xs : List UpcEntry). xs ++ entry ∷ []) so_far.front
          ∙ ap (λ (x : UpcEntry). map entry_for_c (take count entries) ++ x ∷ []) is
          ∙ sym (map-append entry_for_c (take count entries) (get_or entries count other ∷ []))
          ∙ ap (map entry_for_c) (sym (take_more entries count other below));
      rest = drop-set-lt (count + 1) room count entry next ∙ drop_more_same room before count so_far.rest;
    }

pub written-all : (entries : List Entry) (before room : List UpcEntry) (count : ℕ) → count ≡ length entries → length entries ≤ length before
    → WrittenOf entries before room count → AreWritten entries before room
written-all entries before room count all fits so_far = record {
  fits = fits;
  written = subst (λ (n : ℕ). room ≡ map entry_for_c entries ++ drop n before) all
      (sym (take-append-drop count room) ∙ ap (λ (xs : List UpcEntry). xs ++ drop count room) (so_far.front ∙ ap (map entry_for_c) (take_all count entries (le_of_eq (sym all))))
      ∙ ap (λ (xs : List UpcEntry). map entry_for_c entries ++ xs) so_far.rest);
}
