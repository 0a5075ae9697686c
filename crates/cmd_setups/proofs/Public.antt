-- Lemmas for other crates.
use Rattle.std.proofs.Common.{ℕ, List, [], ◌∷◌, ◌++◌, Option, append-nil, append_assoc, ap, refl, subst, sym, ◌≡◌, ◌∙◌}
use Rattle.std.proofs.lemmas.List.{map-append}
use Rattle.std.specs.Global.{Vec}
use Rattle.cmd_setups.specs.FilesRead.{AreTextsForFiles, IsTextForFile, octets_of_name, octets_of_names}
use Rattle.cmd_setups.specs.SharedTexts.{octets_of_text, octets_of_texts}
use Rattle.cmd_setups.specs.declared.shared_text.SharedText.{SharedText}

-- The text of one more file goes after those so far.
pub one_more_text : (all : List (Option (List ℕ))) (file : Option (Vec ℕ)) (files : List (Option (Vec ℕ))) (texts : List SharedText) (text : SharedText)
    → ((more : List (List ℕ)) → AreTextsForFiles (octets_of_names (file ∷ files)) more → AreTextsForFiles all (octets_of_texts texts ++ more))
    → IsTextForFile (octets_of_name file) (octets_of_text text)
    → (more : List (List ℕ)) → AreTextsForFiles (octets_of_names files) more → AreTextsForFiles all (octets_of_texts (texts ++ text ∷ []) ++ more)
one_more_text all file files texts text so is more h =
    let same : octets_of_texts (texts ++ text ∷ []) ++ more ≡ octets_of_texts texts ++ octets_of_text text ∷ more =
    ap (λ (ts : List (List ℕ)). ts ++ more) (map-append octets_of_text texts (text ∷ []))
    ∙ append_assoc (octets_of_texts texts) (octets_of_text text ∷ []) more in
    subst (AreTextsForFiles all) (sym same) (so (octets_of_text text ∷ more) (is, h))

-- The texts of all files, if none is left.
pub all_texts : (all : List (Option (List ℕ))) (files : List (Option (Vec ℕ))) (texts : List SharedText)
    → ((more : List (List ℕ)) → AreTextsForFiles (octets_of_names files) more → AreTextsForFiles all (octets_of_texts texts ++ more))
    → files ≡ [] → AreTextsForFiles all (octets_of_texts texts)
all_texts all files texts so none =
    subst (AreTextsForFiles all) (append-nil (octets_of_texts texts)) (so [] (subst (λ (fs : List (Option (Vec ℕ))). AreTextsForFiles (octets_of_names fs) []) (sym none) refl))
