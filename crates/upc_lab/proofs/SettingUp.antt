-- The hints about files of rules, one file after another.
use Rattle.std.proofs.Common.{◌≡◌, ◌<◌, ◌≤◌, ◌-◌, ◌∙◌, ◌++◌, ◌||◌, ℕ, Bool, true, false, cond, List, [], ◌∷◌, length, Option, append_assoc, append-nil, ap, arith, drop, get_or, take, refl, subst, sym}
use Rattle.std.proofs.lemmas.List.{take_all}
use Rattle.std.specs.Global.{Vec}
use Rattle.text_io.specs.Devices.{Adds}
use Rattle.cmd_setups.specs.FilesRead.{octets_of_name, octets_of_names}
use Rattle.cmd_setups.specs.SharedTexts.{octets_of_text, octets_of_texts}
use Rattle.cmd_setups.specs.declared.shared_text.SharedText.{SharedText}
use Rattle.upc_lab.specs.SetupHints.{AreFileHints, AreFilesHints, names_with_file}

pub either : (one other : Bool) → cond one true other ≡ (one || other)
either true other = refl
either false other = refl

-- The hints about the files so far, and any hints about those that are left, are hints about all.
abbrev pub AreHintsSoFar : List (Option (List ℕ)) → List (List ℕ) → List (List ℕ) → List (Option (List ℕ)) → List (List ℕ) → List ℕ → Type 0
AreHintsSoFar files texts before left texts_left hints = (more : List ℕ) → AreFilesHints before left texts_left more → AreFilesHints [] files texts (hints ++ more)

pub one_more_file : (files : List (Option (List ℕ))) (texts before : List (List ℕ)) (file : Option (List ℕ)) (left : List (Option (List ℕ))) (text : List ℕ) (texts_left : List (List ℕ)) (hints hints' : List ℕ)
    → AreHintsSoFar files texts before (file ∷ left) (text ∷ texts_left) hints → Adds (AreFileHints before file text) hints hints'
    → AreHintsSoFar files texts (names_with_file file before) left texts_left hints'
one_more_file files texts before file left text texts_left hints hints' so_far added more is =
    subst (λ (all : List ℕ). AreFilesHints [] files texts all) (sym (ap (λ (xs : List ℕ). xs ++ more) added.1 ∙ append_assoc hints added.0 more))
    (so_far (added.0 ++ more) (added.0, more, added.2, is, refl))

pub all_hints : (files : List (Option (List ℕ))) (texts before : List (List ℕ)) (left : List (Option (List ℕ))) (texts_left : List (List ℕ)) (hints : List ℕ)
    → AreHintsSoFar files texts before left texts_left hints → AreFilesHints before left texts_left [] → AreFilesHints [] files texts hints
all_hints files texts before left texts_left hints so_far none = subst (λ (all : List ℕ). AreFilesHints [] files texts all) (append-nil hints) (so_far [] none)

-- A list is its first item and the rest.
pub first_and_rest : {A : Type 0} (items : List A) (item : A) → 1 ≤ length items → item ≡ get_or items 0 item → items ≡ item ∷ take (length items - 1) (drop 1 items)
first_and_rest [] item long is = absurd (omega (arith, long))
first_and_rest {A} (first ∷ rest) item long is =
    let cut : take (length (first ∷ rest) - 1) rest ≡ rest = take_all (length (first ∷ rest) - 1) rest (omega arith) in
    ap (λ (xs : List A). first ∷ xs) (sym cut) ∙ ap (λ (x : A). x ∷ take (length (first ∷ rest) - 1) rest) (sym is)

-- Where no file or no text is left, there is no hint.
pub no_file_left : (before : List (List ℕ)) (files : List (Option (Vec ℕ))) (texts : List (List ℕ)) → length files < 1 → AreFilesHints before (octets_of_names files) texts []
no_file_left before [] texts short = refl
no_file_left before (file ∷ files) texts short = absurd (omega (arith, short))

pub no_text_left : (before : List (List ℕ)) (files : List (Option (List ℕ))) (texts : List SharedText) → length texts < 1 → AreFilesHints before files (octets_of_texts texts) []
no_text_left before [] texts short = refl
no_text_left before (file ∷ files) [] short = refl
no_text_left before (file ∷ files) (text ∷ texts) short = absurd (omega (arith, short))

pub next_file : (files : List (Option (List ℕ))) (texts before : List (List ℕ)) (left rest : List (Option (Vec ℕ))) (file : Option (Vec ℕ)) (texts_left texts_rest : List SharedText) (text : SharedText)
    (hints hints' : List ℕ) → left ≡ file ∷ rest → texts_left ≡ text ∷ texts_rest → AreHintsSoFar files texts before (octets_of_names left) (octets_of_texts texts_left) hints
    → Adds (AreFileHints before (octets_of_name file) (octets_of_text text)) hints hints'
    → AreHintsSoFar files texts (names_with_file (octets_of_name file) before) (octets_of_names rest) (octets_of_texts texts_rest) hints'
next_file files texts before left rest file texts_left texts_rest text hints hints' one two so_far added =
    let here = rw one at so_far in
    let both = rw two at here in
    one_more_file files texts before (octets_of_name file) (octets_of_names rest) (octets_of_text text) (octets_of_texts texts_rest) hints hints' both added
