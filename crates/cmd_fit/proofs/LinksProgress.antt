-- Each step of a reading keeps its progress, and its end gives a text of the whole.
use Rattle.std.proofs.Common.{◌≡◌, ℕ, List, [], ◌++◌, length, take, drop, refl, ap, sym, ◌∙◌, subst}
use Rattle.std.proofs.lemmas.List.{take-append-drop}
use Rattle.captures_text.specs.inner.Progress.{CaptureProgress, HasRead}
use Rattle.captures_text.proofs.Progresses.{enough, refilled, stepped, text_of}
use Rattle.text_io.specs.declared.ending.Done.{Done}
use Rattle.cmd_fit.specs.declared.links_reading.LinksReading.{LinksReading}
use Rattle.cmd_fit.specs.inner.LinksSteps.{ReadsFrame, LinksHere, WantsMore}
use Rattle.cmd_fit.proofs.LinksOfOctets.{step_leads, wants_leads}

-- How far a reading came from the one at first. Nothing is written on the way.
abbrev pub ReadTo : LinksReading → LinksReading → Type 0 → List ℕ → List ℕ → Type 0
ReadTo first reading Known rest0 rest =
    CaptureProgress (LinksHere first) (LinksHere reading) Known (Unit {0}) first.window rest0 reading.window rest [] [] []

-- After a frame.
pub read_on : (first before after : LinksReading) (Known : Type 0) (rest0 rest : List ℕ) → ReadTo first before Known rest0 rest → ReadsFrame before after
    → ReadTo first after Known rest0 rest
read_on first before after Known rest0 rest p on =
    let own = take on.own before.window in
    let cut : before.window ≡ own ++ after.window = sym (take-append-drop on.own before.window) ∙ ap (λ xs. own ++ xs) (sym on.window) in
    stepped (LinksHere first) (LinksHere before) (LinksHere after) Known (Unit {0}) first.window rest0 before.window own after.window rest [] [] [] [] [] p cut refl
    (step_leads before after on)

-- Where more octets are wanted.
pub read_still : (first before after : LinksReading) (Known : Type 0) (rest0 rest : List ℕ) → ReadTo first before Known rest0 rest → WantsMore before after
    → ReadTo first after Known rest0 rest
read_still first before after Known rest0 rest p wants =
    stepped (LinksHere first) (LinksHere before) (LinksHere after) Known (Unit {0}) first.window rest0 before.window [] after.window rest [] [] [] [] [] p
    (sym wants.window) refl (wants_leads before after wants)

-- The reading with these waiting octets.
abbrev pub with_near : LinksReading → List ℕ → LinksReading
with_near reading near = record reading { window = near }

-- After more octets are read.
pub read_more : (first reading : LinksReading) (near : List ℕ) (Known : Type 0) (rest0 rest rest' : List ℕ) → ReadTo first reading Known rest0 rest
    → take (length reading.window) near ≡ reading.window → (Known → reading.window ++ rest ≡ near ++ rest')
    → ReadTo first (with_near reading near) Known rest0 rest'
read_more first reading near Known rest0 rest rest' p front same =
    let fresh = drop (length reading.window) near in
    let longer : near ≡ reading.window ++ fresh = sym (take-append-drop (length reading.window) near) ∙ ap (λ xs. xs ++ fresh) front in
    refilled (LinksHere first) (LinksHere reading) (LinksHere (with_near reading near)) Known (Unit {0}) first.window rest0 reading.window near fresh rest rest'
    [] [] [] p longer same (λ octets text done has. has)

-- What is said of the rest is said of the whole.
pub said_of : (first reading : LinksReading) (Known : Type 0) (rest0 rest here : List ℕ) (done : Done) → ReadTo first reading Known rest0 rest → Known
    → LinksHere reading (reading.window ++ rest) here done → LinksHere first (first.window ++ rest0) here done
said_of first reading Known rest0 rest here done p known has =
    let whole = text_of (LinksHere first) (LinksHere reading) Known (Unit {0}) first.window rest0 reading.window rest [] [] here [] here done p known tt has refl in
    subst (λ (xs : List ℕ). LinksHere first (first.window ++ rest0) xs done) (sym whole.1) whole.2

-- What was read has this end.
pub enough_of : (first reading : LinksReading) (Known : Type 0) (rest0 rest here : List ℕ) (done : Done) → ReadTo first reading Known rest0 rest → Known
    → LinksHere reading (reading.window ++ []) here done → HasRead (LinksHere first) first.window rest0 rest done
enough_of first reading Known rest0 rest here done p known has =
    enough (LinksHere first) (LinksHere reading) Known (Unit {0}) first.window rest0 reading.window rest [] [] [] here done p known has
