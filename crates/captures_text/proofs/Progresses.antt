-- Each step of a run keeps its progress, and each end of it gives a text or a front of one.
use Rattle.std.proofs.Common.{◌≡◌, ℕ, List, [], ◌∷◌, ◌++◌, Result, Ok, Err, IfOk, refl, ap, sym, ◌∙◌, subst, append_assoc, append-nil}
use Rattle.std.specs.Result.{OnOk}
use Rattle.captures_text.specs.inner.Progress.{CaptureProgress, HasRead, Texts}
use Rattle.text_io.specs.Devices.{Adds, IsPart, WritesPrefix}
use Rattle.text_io.specs.Printing.{IsFront}
use Rattle.text_io.specs.declared.ending.Done.{Done}
-- Of results, and of all that waited.
pub use Rattle.text_io.proofs.Public.{all-moved as all_given, at-done as if_done, at-fault as on_fault, at-given as if_given}

-- A text along equal octets.
pub reprinted : (Whole : Texts) (octets octets' text text' : List ℕ) (done : Done)
    → octets ≡ octets' → text ≡ text' → Whole octets text done → Whole octets' text' done
reprinted Whole octets octets' text text' done same alike is =
    subst (λ (xs : List ℕ). Whole octets' xs done) alike (subst (λ (xs : List ℕ). Whole xs text done) same is)

pub begun : (Whole : Texts) (Known Held : Type 0) (near rest before : List ℕ)
    → CaptureProgress Whole Whole Known Held near rest near rest before before []
begun Whole Known Held near rest before = record {
  answered = [];
  printed = [];
  came = λ _. ([], refl, append-nil near);
  gave = λ _. ([], sym (append-nil before), refl);
  leads = λ more text done is. is;
}

-- What a whole input is.
whole_is : (near0 rest0 fresh answered near rest : List ℕ) → rest0 ≡ fresh ++ rest → near0 ++ fresh ≡ answered ++ near
    → answered ++ (near ++ rest) ≡ near0 ++ rest0
whole_is near0 rest0 fresh answered near rest came front =
    sym (append_assoc answered near rest) ∙ ap (λ xs. xs ++ rest) (sym front) ∙ append_assoc near0 fresh rest
    ∙ ap (λ xs. near0 ++ xs) (sym came)

-- Equal lists with equal fronts have equal rests.
same_rest : (front xs ys : List ℕ) → front ++ xs ≡ front ++ ys → xs ≡ ys
same_rest [] xs ys same = same
same_rest (x ∷ front) xs ys same = same_rest front xs ys (let inner : front ++ xs ≡ front ++ ys = cc in inner)

parted : (answered own near later more : List ℕ) → near ≡ own ++ later → answered ++ (near ++ more) ≡ (answered ++ own) ++ (later ++ more)
parted answered own near later more cut =
    ap (λ xs. answered ++ (xs ++ more)) cut ∙ ap (λ xs. answered ++ xs) (append_assoc own later more)
    ∙ sym (append_assoc answered own (later ++ more))

-- After a frame.
pub stepped : (Whole Here Next : Texts) (Known Held : Type 0) (near0 rest0 near own later rest before now old new here : List ℕ)
    → CaptureProgress Whole Here Known Held near0 rest0 near rest before now old → near ≡ own ++ later → new ≡ old ++ here
    → ((more text : List ℕ) (done : Done) → Next (later ++ more) text done → Here (near ++ more) (here ++ text) done)
    → CaptureProgress Whole Next Known Held near0 rest0 later rest before now new
stepped Whole Here Next Known Held near0 rest0 near own later rest before now old new here p cut grew leads = record {
  answered = p.answered ++ own;
  printed = p.printed ++ here;
  came = λ known.
      let came = p.came known in (
        came.0,
        came.1,
        came.2 ∙ ap (λ xs. p.answered ++ xs) cut ∙ sym (append_assoc p.answered own later),
      );
  gave = λ held.
      let gave = p.gave held in
      (gave.0, gave.1, ap (λ xs. xs ++ here) gave.2 ∙ append_assoc gave.0 old here ∙ ap (λ xs. gave.0 ++ xs) (sym grew));
  leads = λ more text done is.
      reprinted Whole (p.answered ++ (near ++ more)) ((p.answered ++ own) ++ (later ++ more)) (p.printed ++ (here ++ text)) ((p.printed ++ here) ++ text) done
      (parted p.answered own near later more cut) (sym (append_assoc p.printed here text))
      (p.leads more (here ++ text) done (leads more text done is));
}

-- After some answers are written.
pub given : (Whole Here : Texts) (Known Held : Type 0) (near0 rest0 near rest before now now' waiting waiting' : List ℕ)
    → CaptureProgress Whole Here Known Held near0 rest0 near rest before now waiting → (Held → WritesPrefix now now' waiting waiting')
    → CaptureProgress Whole Here Known Held near0 rest0 near rest before now' waiting'
given Whole Here Known Held near0 rest0 near rest before now now' waiting waiting' p moves = record {
  answered = p.answered;
  printed = p.printed;
  came = p.came;
  gave = λ held.
      let gave = p.gave held in
      let moved = moves held in (
        gave.0 ++ moved.0,
        moved.2 ∙ ap (λ xs. xs ++ moved.0) gave.1 ∙ append_assoc before gave.0 moved.0,
        gave.2 ∙ ap (λ xs. gave.0 ++ xs) moved.1 ∙ sym (append_assoc gave.0 moved.0 waiting'),
      );
  leads = p.leads;
}

extended : (answered near fresh more : List ℕ) (near' : List ℕ) → near' ≡ near ++ fresh → answered ++ (near ++ (fresh ++ more)) ≡ answered ++ (near' ++ more)
extended answered near fresh more near' longer =
    ap (λ xs. answered ++ xs) (sym (append_assoc near fresh more) ∙ ap (λ xs. xs ++ more) (sym longer))

-- After more octets are read.
pub refilled : (Whole Here Next : Texts) (Known Held : Type 0) (near0 rest0 near near' fresh rest rest' before now waiting : List ℕ)
    → CaptureProgress Whole Here Known Held near0 rest0 near rest before now waiting → near' ≡ near ++ fresh → (Known → near ++ rest ≡ near' ++ rest')
    → ((octets text : List ℕ) (done : Done) → Next octets text done → Here octets text done)
    → CaptureProgress Whole Next Known Held near0 rest0 near' rest' before now waiting
refilled Whole Here Next Known Held near0 rest0 near near' fresh rest rest' before now waiting p longer same good = record {
  answered = p.answered;
  printed = p.printed;
  came = λ known.
      let came = p.came known in
      let read : rest ≡ fresh ++ rest' =
      same_rest near rest (fresh ++ rest') (same known ∙ ap (λ xs. xs ++ rest') longer ∙ append_assoc near fresh rest')
      in (
        came.0 ++ fresh,
        came.1 ∙ ap (λ xs. came.0 ++ xs) read ∙ sym (append_assoc came.0 fresh rest'),
        sym (append_assoc near0 came.0 fresh) ∙ ap (λ xs. xs ++ fresh) came.2 ∙ append_assoc p.answered near fresh
            ∙ ap (λ xs. p.answered ++ xs) (sym longer),
      );
  gave = p.gave;
  leads = λ more text done is.
      reprinted Whole (p.answered ++ (near ++ (fresh ++ more))) (p.answered ++ (near' ++ more)) (p.printed ++ text) (p.printed ++ text) done
      (extended p.answered near fresh more near' longer) refl
      (p.leads (fresh ++ more) text done
      (reprinted Here (near' ++ more) (near ++ (fresh ++ more)) text text done
      (ap (λ xs. xs ++ more) longer ∙ append_assoc near fresh more) refl (good (near' ++ more) text done is)));
}

-- What was written before and the last answers are a text of the whole.
pub text_of : (Whole Here : Texts) (Known Held : Type 0) (near0 rest0 near rest before now now' waiting here : List ℕ) (done : Done)
    → CaptureProgress Whole Here Known Held near0 rest0 near rest before now waiting → Known → Held
    → Here (near ++ rest) here done → now' ≡ now ++ (waiting ++ here) → Adds (λ text. Whole (near0 ++ rest0) text done) before now'
text_of Whole Here Known Held near0 rest0 near rest before now now' waiting here done p known held is gives =
    let came = p.came known in
    let gave = p.gave held in (
      gave.0 ++ (waiting ++ here),
      gives ∙ ap (λ xs. xs ++ (waiting ++ here)) gave.1 ∙ append_assoc before gave.0 (waiting ++ here),
      reprinted Whole (p.answered ++ (near ++ rest)) (near0 ++ rest0) (p.printed ++ here) (gave.0 ++ (waiting ++ here)) done
          (whole_is near0 rest0 came.0 p.answered near rest came.1 came.2) (ap (λ xs. xs ++ here) gave.2 ∙ append_assoc gave.0 waiting here)
          (p.leads rest here done is),
    )

-- A front of the last answers gives a front of a text.
pub front_of_last : (Whole Here : Texts) (Known Held : Type 0) (near0 rest0 near rest before now now' waiting here : List ℕ) (done : Done)
    → CaptureProgress Whole Here Known Held near0 rest0 near rest before now waiting → Known → Held
    → Here (near ++ rest) here done → IsPart now now' (waiting ++ here) → Adds (IsFront (Whole (near0 ++ rest0))) before now'
front_of_last Whole Here Known Held near0 rest0 near rest before now now' waiting here done p known held is part =
    let came = p.came known in
    let gave = p.gave held in (
      gave.0 ++ part.0,
      part.3 ∙ ap (λ xs. xs ++ part.0) gave.1 ∙ append_assoc before gave.0 part.0,
      (
        part.1,
        done,
        reprinted Whole (p.answered ++ (near ++ rest)) (near0 ++ rest0) (p.printed ++ here) ((gave.0 ++ part.0) ++ part.1) done
            (whole_is near0 rest0 came.0 p.answered near rest came.1 came.2)
            (ap (λ xs. xs ++ here) gave.2 ∙ append_assoc gave.0 waiting here ∙ ap (λ xs. gave.0 ++ xs) part.2 ∙ sym (append_assoc gave.0 part.0 part.1))
            (p.leads rest here done is),
      ),
    )

-- So does a front of the waiting octets, where what is left has some text.
pub front_of : (Whole Here : Texts) (Known Held : Type 0) (near0 rest0 near rest before now now' waiting here : List ℕ) (done : Done)
    → CaptureProgress Whole Here Known Held near0 rest0 near rest before now waiting → Known → Held
    → Here (near ++ rest) here done → IsPart now now' waiting → Adds (IsFront (Whole (near0 ++ rest0))) before now'
front_of Whole Here Known Held near0 rest0 near rest before now now' waiting here done p known held is part =
    front_of_last Whole Here Known Held near0 rest0 near rest before now now' waiting here done p known held is
    (part.0, part.1 ++ here, ap (λ xs. xs ++ here) part.2 ∙ append_assoc part.0 part.1 here, part.3)

-- What was read has a text with this end.
pub enough : (Whole Here : Texts) (Known Held : Type 0) (near0 rest0 near rest before now waiting here : List ℕ) (done : Done)
    → CaptureProgress Whole Here Known Held near0 rest0 near rest before now waiting → Known → Here (near ++ []) here done
    → HasRead Whole near0 rest0 rest done
enough Whole Here Known Held near0 rest0 near rest before now waiting here done p known is =
    let came = p.came known in (
      came.0,
      came.1,
      (
        p.printed ++ here,
        reprinted Whole (p.answered ++ (near ++ [])) (near0 ++ came.0) (p.printed ++ here) (p.printed ++ here) done
            (ap (λ xs. p.answered ++ xs) (append-nil near) ∙ sym came.2) refl (p.leads [] here done is),
      ),
    )

-- A front of equal octets.
pub part_at : (before after octets octets' : List ℕ) → octets ≡ octets' → IsPart before after octets → IsPart before after octets'
part_at before after octets octets' same part = (part.0, part.1, sym same ∙ part.2, part.3)

pub on_done : {T E : Type 0} (result : Result T E) (Given Wanted : Type 0) → OnOk result Given → (Given → Wanted) → OnOk result Wanted
on_done (Ok value) Given Wanted given holds = holds given
on_done (Err fault) Given Wanted given holds = tt

pub if_both : {T E : Type 0} (result : Result T E) (P Q : T → Type 0) → IfOk result P → IfOk result Q → IfOk result (λ value. P value × Q value)
if_both (Ok value) P Q one other = (one, other)
if_both (Err fault) P Q one other = tt
