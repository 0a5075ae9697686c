-- Cards that are alike answer a cell alike, if its journal has room on both.
use Rattle.std.proofs.Common.{◌≡◌, ℕ, ◌^◌, ◌<◌, Bool, true, false, if◌then◌else◌, List, [], ◌∷◌, ◌++◌, Option, Some, None, nat_le, nat_lt, option_map, refl, sym, ap, ◌∙◌, subst, arith}
use Rattle.std.specs.Option.{MatchOption}
use Rattle.std.proofs.lemmas.Bool.{le-leb, leb-true}
use Rattle.std.proofs.lemmas.Option.{same_Some}
use Rattle.upc_cell.specs.Connection.{vc_of}
use Rattle.upc_cell.specs.declared.vc.Vc.{Vc}
use Rattle.bpf_code.specs.declared.instr.Instr.{Instr}
use Rattle.bpf_interp.proofs.Public.{Value-unique}
use Rattle.line_record.specs.History.{empty_buckets, last_moment}
use Rattle.card_core.specs.Steps.{Gives, cell_after, named_cell}
use Rattle.card_core.specs.World.{Connection, Loading, World, code_in, connection_in}
use Rattle.card_core.specs.inner.Sound.{WorldInvariant}
use Rattle.card_core.specs.Refusals.{cell_refusal}
use Rattle.card_core.specs.declared.answer.Answer.{Answer}
use Rattle.card_core.specs.declared.answer.Answer.TheVariants as answer
use Rattle.text_card.specs.Replies.{number_of_judging}
use Rattle.cmd_run.proofs.one_script.Numbers.{names_of, number-is, number_in}
use Rattle.cmd_run.proofs.alike.SameConnections.{bare, with-same}
use Rattle.cmd_run.proofs.alike.ViewsAlike.{ViewsAlike}
use Rattle.cmd_run.proofs.one_script.CellAnswers.{code-there, refusal-seen, seen_refusal, seen_verdict}
use Rattle.cmd_run.proofs.one_script.CellSteps.{CellCase, judged, judged_seen, missed, refused, seen_cell}
use Rattle.cmd_run.proofs.one_script.ConnectionSteps.{found-there}
use Rattle.cmd_run.proofs.one_script.HoldsAfter.{HoldsAfter, JudgedAtMost}
use Rattle.cmd_run.proofs.one_script.Seen.{Seen, SeenConnection, code_of, found_at, seen, seen_connection}
use Rattle.cmd_run.proofs.one_script.SeenCells.{verdict-nameless}
use Rattle.cmd_run.proofs.one_script.SeenConnections.{found-seen}

-- An answer without its line, its number on the line, and the id of the program.
abbrev pub shown_answer : Answer → Answer
shown_answer (answer.Judged line number moment value program verdict leaving) =
    answer.Judged 0 0 moment value (record { slot = 0; generation = 0 }) verdict leaving
shown_answer answer.NoConnection = answer.NoConnection
shown_answer answer.Released = answer.Released
shown_answer answer.Stale = answer.Stale
shown_answer (answer.MomentBack last) = answer.MomentBack last
shown_answer answer.MomentTooLate = answer.MomentTooLate
shown_answer answer.JournalFull = answer.JournalFull
shown_answer answer.NoMemory = answer.NoMemory

-- The number of the program that gave a cell its value, in the order of loading. For a cell that isn't judged it is 0.
abbrev pub number_judging : List Loading → Answer → ℕ
number_judging loaded (answer.Judged line number moment value program verdict leaving) = number_in loaded program
number_judging loaded _ = 0

-- The same by the names of programs.
pub number_shown : (loaded : List Loading) (given : Answer) → number_of_judging (names_of loaded) given ≡ number_judging loaded given
number_shown loaded (answer.Judged line number moment value program verdict leaving) = number-is loaded program
number_shown loaded answer.NoConnection = refl
number_shown loaded answer.Released = refl
number_shown loaded answer.Stale = refl
number_shown loaded (answer.MomentBack last) = refl
number_shown loaded answer.MomentTooLate = refl
number_shown loaded answer.JournalFull = refl
number_shown loaded answer.NoMemory = refl

-- No program gave a cell that is refused its value.
refused-numberless : (loaded : List Loading) (late back full worn : Bool) (last : ℕ) (given : Answer)
    → (if late then Some answer.MomentTooLate else if back then Some (answer.MomentBack last) else if full then Some answer.JournalFull
    else if worn then Some answer.JournalFull else None) ≡ Some given
    → number_judging loaded given ≡ 0
refused-numberless loaded true back full worn last given e = ap (number_judging loaded) (sym (same_Some answer.MomentTooLate given e))
refused-numberless loaded false true full worn last given e = ap (number_judging loaded) (sym (same_Some (answer.MomentBack last) given e))
refused-numberless loaded false false true worn last given e = ap (number_judging loaded) (sym (same_Some answer.JournalFull given e))
refused-numberless loaded false false false true last given e = ap (number_judging loaded) (sym (same_Some answer.JournalFull given e))
refused-numberless loaded false false false false last given e = absurd (cc)

-- A journal is full only if it may have no entry at all.
abbrev pub HasRoom : World → Answer → Type 0
HasRoom before given = given ≡ answer.JournalFull → nat_le before.shape.journal 0 ≡ true

-- Why a cell with this moment is not judged, where a journal of at most this many entries has room.
abbrev refused_moment : ℕ → SeenConnection → ℕ → Option Answer
refused_moment journal connection moment =
    if nat_lt (2 ^ 62) moment then Some answer.MomentTooLate
    else if nat_lt moment (last_moment 0 connection.history) then Some (answer.MomentBack (last_moment 0 connection.history))
    else if nat_le journal 0 then Some answer.JournalFull
    else None

by-room : (late back full never : Bool) (last : ℕ) (found : Option Answer)
    → (if late then Some answer.MomentTooLate else if back then Some (answer.MomentBack last) else if full then Some answer.JournalFull else None) ≡ found
    → (never ≡ true → full ≡ true) → (found ≡ Some answer.JournalFull → never ≡ true)
    → (if late then Some answer.MomentTooLate else if back then Some (answer.MomentBack last) else if never then Some answer.JournalFull else None) ≡ found
by-room true back full never last found e fills room = e
by-room false true full never last found e fills room = e
by-room false false true true last found e fills room = e
by-room false false true false last found e fills room = let no : false ≡ true = room (sym e) in absurd (cc)
by-room false false false true last found e fills room = let no : false ≡ true = fills refl in absurd (cc)
by-room false false false false last found e fills room = e

never-fills : (journal many : ℕ) → nat_le journal 0 ≡ true → nat_le journal many ≡ true
never-fills journal many e = le-leb journal many (let none = leb-true journal 0 e in omega (arith, none))

-- The answer to a judged cell.
abbrev shown_judgement : SeenConnection → ℕ → List ℕ → ℕ → Answer
shown_judgement connection moment octets value =
    answer.Judged 0 0 moment value (record { slot = 0; generation = 0 }) (seen_verdict connection (seen_cell octets moment value))
    (cell_after (seen_verdict connection (seen_cell octets moment value)) octets)

-- A cell with this value is judged by the program with this number, or not for this reason.
abbrev IsAnsweredSo : Seen → Seen → Vc → SeenConnection → ℕ → List ℕ → ℕ → Answer → ℕ → Option Answer → Type 0
IsAnsweredSo s to vc connection moment octets value given number found =
    MatchOption found
    ((shown_answer given ≡ shown_judgement connection moment octets value) × (to ≡ judged_seen s vc connection (seen_cell octets moment value))
    × (number ≡ connection.program))
    (λ reason. (given ≡ reason) × (to ≡ s) × (number ≡ 0))

-- The answer to a cell, and the view after it, by the view before it.
data CellShown (s to : Seen) (moment : ℕ) (octets : List ℕ) (given : Answer) (number : ℕ) : Type 0 where
  absent : found_at s.connections (vc_of s.shape.side octets) ≡ None → given ≡ answer.NoConnection → to ≡ s → number ≡ 0
      → CellShown s to moment octets given number
  present : (connection : SeenConnection) → found_at s.connections (vc_of s.shape.side octets) ≡ Some connection
      → (code : List Instr) → code_of s.live connection.program ≡ Some code → (value : ℕ) → Gives code octets value
      → (found : Option Answer) → refused_moment s.shape.journal connection moment ≡ found
      → IsAnsweredSo s to (vc_of s.shape.side octets) connection moment octets value given number found → CellShown s to moment octets given number

-- The case of a cell, as the view shows it.
module _ (met most : ℕ) (before after : World) (moment : ℕ) (octets : List ℕ) (given : Answer) (invariant : HoldsAfter met before)
    (counted : JudgedAtMost most before) (few : most < 2 ^ 62) (sound : WorldInvariant before) (room : HasRoom before given) where
  present-shown : (connection : Connection) → connection_in before.connections (vc_of before.shape.side octets) ≡ Some connection
      → (code : List Instr) → code_in before.loaded connection.program ≡ Some code → (value : ℕ) → Gives code octets value
      → (found : Option Answer) → cell_refusal before connection moment ≡ found → (found ≡ Some answer.JournalFull → nat_le before.shape.journal 0 ≡ true)
      → IsAnsweredSo (seen before) (seen after) (vc_of before.shape.side octets) (seen_connection before.loaded connection) moment octets value given
      (number_judging before.loaded given) found
      → CellShown (seen before) (seen after) moment octets given (number_judging before.loaded given)
  present-shown connection there code named value gives found why has_room so =
      let vc = vc_of before.shape.side octets in
      let own = seen_connection before.loaded connection in
      let refusal : seen_refusal (seen before) own moment ≡ found = sym (refusal-seen most before connection moment counted few) ∙ why in
      present own (found-there before.loaded before.connections vc connection there)
      code (code-there before sound met invariant vc connection there code named) value gives
      found (by-room _ _ _ _ _ found refusal (never-fills before.shape.journal _) has_room) so

  cell-shown : CellCase before after moment octets given → CellShown (seen before) (seen after) moment octets given (number_judging before.loaded given)
  cell-shown (missed none is shown) =
      let vc = vc_of before.shape.side octets in
      absent (found-seen before.loaded before.connections vc ∙ ap (option_map (seen_connection before.loaded)) none) is shown (ap (number_judging before.loaded) is)
  cell-shown (refused connection there code named value gives why shown) =
      present-shown connection there code named value gives (Some given) why
      (λ full. room (same_Some given answer.JournalFull full)) (refl, shown, refused-numberless before.loaded _ _ _ _ _ given why)
  cell-shown (judged connection there code named value gives allowed is shown) =
      let verdict = verdict-nameless connection.contracts empty_buckets connection.history (named_cell octets moment connection.program value) in
      let answers : shown_answer given ≡ shown_judgement (seen_connection before.loaded connection) moment octets value =
      ap shown_answer is ∙ (λ i. answer.Judged 0 0 moment value (record { slot = 0; generation = 0 }) (sym verdict i) (cell_after (sym verdict i) octets)) in
      present-shown connection there code named value gives None allowed (λ e. absurd (cc)) (answers, shown, ap (number_judging before.loaded) is)

-- The answers are equal but for lines, numbers and ids, programs with the same number gave the values, and the views after the answers are
-- alike.
pub record CellsAnsweredAlike (given given' : Answer) (number number' : ℕ) (to to' : Seen) : Type 0 where
  pub answers : shown_answer given ≡ shown_answer given'
  pub numbers : number ≡ number'
  pub views : ViewsAlike to to'

moved : (to to' next next' : Seen) → to ≡ next → to' ≡ next' → ViewsAlike next next' → ViewsAlike to to'
moved to to' next next' e e' alike = subst (λ (s : Seen). ViewsAlike s to') (sym e) (subst (λ (s : Seen). ViewsAlike next s) (sym e') alike)

-- A judged cell on a connection that is the same but for its cuts.
so-alike : (s t to to' : Seen) (vc : Vc) (x y : SeenConnection) (moment : ℕ) (octets : List ℕ) (value : ℕ) (given given' : Answer) (number number' : ℕ) → ViewsAlike s t
    → bare x ≡ bare y → (found : Option Answer) → IsAnsweredSo s to vc x moment octets value given number found
    → IsAnsweredSo t to' vc y moment octets value given' number' found → CellsAnsweredAlike given given' number number' to to'
so-alike s t to to' vc x y moment octets value given given' number number' alike like None p q =
    let verdicts = ap (λ (c : SeenConnection). shown_judgement c moment octets value) like in
    let cell = seen_cell octets moment value in
    let longer : bare (record x { history = x.history ++ cell ∷ [] }) ≡ bare (record y { history = y.history ++ cell ∷ [] }) =
    λ i. record (like i) { history = (like i).history ++ cell ∷ [] } in
    record {
      answers = p.0 ∙ verdicts ∙ sym q.0;
      numbers = p.2 ∙ ap (λ (c : SeenConnection). c.program) like ∙ sym q.2;
      views = moved to to' (judged_seen s vc x cell) (judged_seen t vc y cell) p.1 q.1 (record {
        rest = alike.rest;
        connections = with-same s.connections t.connections vc (record x { history = x.history ++ cell ∷ [] }) (record y { history = y.history ++ cell ∷ [] }) longer alike.connections;
      });
    }
so-alike s t to to' vc x y moment octets value given given' number number' alike like (Some reason) p q = record {
  answers = ap shown_answer (p.0 ∙ sym q.0);
  numbers = p.2 ∙ sym q.2;
  views = moved to to' s t p.1 q.1 alike;
}

-- The same cell on both.
present-alike : (s t to to' : Seen) (vc : Vc) (moment : ℕ) (octets : List ℕ) (given given' : Answer) (number number' : ℕ) → ViewsAlike s t → (x y : SeenConnection)
    → bare x ≡ bare y
    → (code code' : List Instr) → code_of s.live x.program ≡ Some code → code_of t.live y.program ≡ Some code'
    → (value value' : ℕ) → Gives code octets value → Gives code' octets value'
    → (found found' : Option Answer) → refused_moment s.shape.journal x moment ≡ found → refused_moment t.shape.journal y moment ≡ found'
    → IsAnsweredSo s to vc x moment octets value given number found → IsAnsweredSo t to' vc y moment octets value' given' number' found'
    → CellsAnsweredAlike given given' number number' to to'
present-alike s t to to' vc moment octets given given' number number' alike x y like code code' named named' value value' gives gives' found found' why why' p q =
    let programs : code_of s.live x.program ≡ code_of t.live y.program = λ i. code_of (alike.rest i).live (like i).program in
    let codes : code' ≡ code = same_Some code' code (sym named' ∙ sym programs ∙ named) in
    let gives_so : Gives code octets value' = subst (λ (c : List Instr). Gives c octets value') codes gives' in
    let values : value' ≡ value = (Value-unique code octets value' value gives_so.0 gives.0 gives_so.1 gives.1).0 in
    let reasons : found' ≡ found = sym why' ∙ (λ i. refused_moment (sym alike.rest i).shape.journal (sym like i) moment) ∙ why in
    so-alike s t to to' vc x y moment octets value given given' number number' alike like found p
    (subst (λ (o : Option Answer). IsAnsweredSo t to' vc y moment octets value given' number' o) reasons
    (subst (λ n. IsAnsweredSo t to' vc y moment octets n given' number' found') values q))

-- If the connection is absent from one, it is absent from the other.
shown-alike : (s t to to' : Seen) (moment : ℕ) (octets : List ℕ) (given given' : Answer) (number number' : ℕ) → ViewsAlike s t
    → CellShown s to moment octets given number → CellShown t to' moment octets given' number' → CellsAnsweredAlike given given' number number' to to'
shown-alike s t to to' moment octets given given' number number' alike p q = cases p q
  where
    vc : Vc
    vc = vc_of s.shape.side octets

    same_vc : vc_of t.shape.side octets ≡ vc
    same_vc = λ i. vc_of (sym alike.rest i).shape.side octets

    found : option_map bare (found_at s.connections vc) ≡ option_map bare (found_at t.connections (vc_of t.shape.side octets))
    found = alike.connections.found vc ∙ ap (λ (v : Vc). option_map bare (found_at t.connections v)) (sym same_vc)

    cases : CellShown s to moment octets given number → CellShown t to' moment octets given' number' → CellsAnsweredAlike given given' number number' to to'
    cases (absent none is shown zero_is) (absent none' is' shown' zero_is') =
        record { answers = ap shown_answer (is ∙ sym is'); numbers = zero_is ∙ sym zero_is'; views = moved to to' s t shown shown' alike }
    cases (absent none is shown zero_is) (present y there code named value gives reason why so) =
        let no : None ≡ Some (bare y) = sym (ap (option_map bare) none) ∙ found ∙ ap (option_map bare) there in absurd (cc)
    cases (present x there code named value gives reason why so) (absent none is shown zero_is) =
        let no : Some (bare x) ≡ None = sym (ap (option_map bare) there) ∙ found ∙ ap (option_map bare) none in absurd (cc)
    cases (present x there code named value gives reason why so) (present y there' code' named' value' gives' reason' why' so') =
        let like : bare x ≡ bare y = same_Some (bare x) (bare y) (sym (ap (option_map bare) there) ∙ found ∙ ap (option_map bare) there') in
        present-alike s t to to' vc moment octets given given' number number' alike x y like code code' named named' value value' gives gives' reason reason' why why' so
        (subst (λ (v : Vc). IsAnsweredSo t to' v y moment octets value' given' number' reason') same_vc so')

-- What is known of a cell on one card.
pub record CellKnown (met most : ℕ) (before after : World) (moment : ℕ) (octets : List ℕ) (given : Answer) : Type 0 where
  pub invariant : HoldsAfter met before
  pub counted : JudgedAtMost most before
  pub sound : WorldInvariant before
  pub room : HasRoom before given
  pub case : CellCase before after moment octets given

pub cell-alike : (met most : ℕ) → most < 2 ^ 62 → (before before' after after' : World) (moment : ℕ) (octets : List ℕ) (given given' : Answer)
    → ViewsAlike (seen before) (seen before') → CellKnown met most before after moment octets given → CellKnown met most before' after' moment octets given'
    → CellsAnsweredAlike given given' (number_judging before.loaded given) (number_judging before'.loaded given') (seen after) (seen after')
cell-alike met most few before before' after after' moment octets given given' alike one other =
    shown-alike (seen before) (seen before') (seen after) (seen after') moment octets given given'
    (number_judging before.loaded given) (number_judging before'.loaded given') alike
    (cell-shown met most before after moment octets given one.invariant one.counted few one.sound one.room one.case)
    (cell-shown met most before' after' moment octets given' other.invariant other.counted few other.sound other.room other.case)
