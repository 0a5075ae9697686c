-- Properties of logs in parts, and the event at which a log is cut.
use Rattle.std.proofs.Common.{◌≡◌, ℕ, ◌==◌, Bool, true, false, List, [], ◌∷◌, ◌++◌, Option, None, map, filter, append_assoc, refl, sym, ap, ◌∙◌, subst}
use Rattle.std.specs.List.{filter_map}
use Rattle.std.proofs.lemmas.List.{map-append}
use Rattle.std.proofs.lemmas.List.Elements.{All-append, All-cons, All-head, All-nil, All-push, All-tail, filter-append, filter_map-append}
use Rattle.std.proofs.lemmas.List.Sums.{fold-append}
use Rattle.upc_cell.specs.declared.vc.Vc.{Vc}
use Rattle.upc_cell.specs.Connection.{vc_of, is_same_vc}
use Rattle.gen_arena.specs.declared.id.Id.{Id}
use Rattle.card_core.specs.declared.reply.Reply.{Reply}
use Rattle.card_core.specs.declared.shape.Shape.{Shape}
use Rattle.card_core.specs.declared.step.Step.{Step}
use Rattle.card_core.specs.Judged.{JudgedView}
use Rattle.card_core.specs.Log.{Event}
use Rattle.card_core.specs.Headline.{Never, named_after, program_after, judged_in_reply, judged_cells, verdicts_on, cells_on, cells_judged_on, as_it_came}

abbrev pub event_of : Step → Reply → Event
event_of step reply = record { step = step; reply = reply }

-- A cut of the log is a cut of the longer log.
pub cut-more : (log earlier later : List Event) (at event : Event) → log ≡ earlier ++ at ∷ later
    → log ++ event ∷ [] ≡ earlier ++ at ∷ (later ++ event ∷ [])
cut-more log earlier later at event cut =
    ap (λ (l : List Event). l ++ event ∷ []) cut ∙ append_assoc earlier (at ∷ later) (event ∷ [])

-- An event that never happens in a log never happens in its parts.

module _ (does : Event → Bool) where
  pub never-nothing : Never does []
  never-nothing = All-nil (λ event. does event ≡ false)

  pub never-more : (log : List Event) (event : Event) → Never does log → does event ≡ false → Never does (log ++ event ∷ [])
  never-more log event none now = All-push (λ event. does event ≡ false) log event none now

  pub never-joined : (log further : List Event) → Never does log → Never does further → Never does (log ++ further)
  never-joined log further = All-append (λ event. does event ≡ false) log further

  pub never-first : (event : Event) (later : List Event) → Never does (event ∷ later) → does event ≡ false
  never-first event later none = All-head (λ event. does event ≡ false) event later none

  pub never-later : (event : Event) (later : List Event) → Never does (event ∷ later) → Never does later
  never-later event later none = All-tail (λ event. does event ≡ false) event later none

  pub never-before : (log further : List Event) → Never does (log ++ further) → Never does log
  never-before [] further none = never-nothing
  never-before (event ∷ log) further none =
      All-cons (λ event. does event ≡ false) event log (never-first event (log ++ further) none)
      (never-before log further (never-later event (log ++ further) none))

  pub never-after : (log further : List Event) → Never does (log ++ further) → Never does further
  never-after [] further none = none
  never-after (event ∷ log) further none = never-after log further (never-later event (log ++ further) none)

-- Two cuts of one log.

rest_of : List Event → List Event
rest_of [] = []
rest_of (event ∷ later) = later

first_of_log : Event → List Event → Event
first_of_log default [] = default
first_of_log default (event ∷ later) = event

heads : (one other : Event) (xs ys : List Event) → one ∷ xs ≡ other ∷ ys → one ≡ other
unfolding first_of_log
heads one other xs ys e = ap (first_of_log one) e

tails : (one other : Event) (xs ys : List Event) → one ∷ xs ≡ other ∷ ys → xs ≡ ys
unfolding rest_of
tails one other xs ys e = ap rest_of e

-- Both cuts are the same.
pub record AreOneCut (before other : List Event) (at another : Event) (after later : List Event) : Type 0 where
  pub fronts : before ≡ other
  pub events : at ≡ another
  pub ends : after ≡ later

longer : (first second : Event) (xs other : List Event) (at another : Event) (ys later : List Event) → first ≡ second
    → AreOneCut xs other at another ys later → AreOneCut (first ∷ xs) (second ∷ other) at another ys later
longer first second xs other at another ys later same rest = record {
  fronts = ap (λ (event : Event). event ∷ xs) same ∙ ap (λ (l : List Event). second ∷ l) rest.fronts;
  events = rest.events;
  ends = rest.ends;
}

module _ (does : Event → Bool) where
  -- An event that does it isn't among those that don't.
  apart : (zs xs : List Event) (event : Event) (ys : List Event) → does event ≡ true → Never does zs → zs ≡ xs ++ event ∷ ys → ⊥
  apart zs xs event ys it none e =
      let whole : Never does (xs ++ event ∷ ys) = subst (λ (l : List Event). Never does l) e none in
      let not : does event ≡ false = never-first does event ys (never-after does xs (event ∷ ys) whole) in
      absurd (cc)

  -- The event is the last that does it.
  pub one-cut : (xs other : List Event) (at another : Event) (ys later : List Event)
      → does at ≡ true → does another ≡ true → Never does ys → Never does later
      → xs ++ at ∷ ys ≡ other ++ another ∷ later → AreOneCut xs other at another ys later
  one-cut [] [] at another ys later it it_too none none_too e = record {
    fronts = refl;
    events = heads at another ys later e;
    ends = tails at another ys later e;
  }
  one-cut [] (first ∷ other) at another ys later it it_too none none_too e =
      absurd (apart ys other another later it_too none (tails at first ys (other ++ another ∷ later) e))
  one-cut (first ∷ xs) [] at another ys later it it_too none none_too e =
      absurd (apart later xs at ys it none_too (sym (tails first another (xs ++ at ∷ ys) later e)))
  one-cut (first ∷ xs) (second ∷ other) at another ys later it it_too none none_too e =
      longer first second xs other at another ys later (heads first second (xs ++ at ∷ ys) (other ++ another ∷ later) e)
      (one-cut xs other at another ys later it it_too none none_too
      (tails first second (xs ++ at ∷ ys) (other ++ another ∷ later) e))

  -- The event is the first that does it.
  pub first-cut : (xs other : List Event) (at another : Event) (ys later : List Event)
      → does at ≡ true → does another ≡ true → Never does xs → Never does other
      → xs ++ at ∷ ys ≡ other ++ another ∷ later → AreOneCut xs other at another ys later
  first-cut [] [] at another ys later it it_too none none_too e = record {
    fronts = refl;
    events = heads at another ys later e;
    ends = tails at another ys later e;
  }
  first-cut [] (first ∷ other) at another ys later it it_too none none_too e =
      let same : at ≡ first = heads at first ys (other ++ another ∷ later) e in
      let not : does first ≡ false = never-first does first other none_too in
      let so : does first ≡ true = sym (ap does same) ∙ it in
      absurd (cc)
  first-cut (first ∷ xs) [] at another ys later it it_too none none_too e =
      let same : first ≡ another = heads first another (xs ++ at ∷ ys) later e in
      let not : does first ≡ false = never-first does first xs none in
      let so : does first ≡ true = ap does same ∙ it_too in
      absurd (cc)
  first-cut (first ∷ xs) (second ∷ other) at another ys later it it_too none none_too e =
      longer first second xs other at another ys later (heads first second (xs ++ at ∷ ys) (other ++ another ∷ later) e)
      (first-cut xs other at another ys later it it_too (never-later does first xs none) (never-later does second other none_too)
      (tails first second (xs ++ at ∷ ys) (other ++ another ∷ later) e))

-- Two logs, one after the other.

judged-append : (log further : List Event) → judged_cells (log ++ further) ≡ judged_cells log ++ judged_cells further
judged-append log further = filter_map-append (λ (event : Event). judged_in_reply event.reply) log further

chosen-append : {X : Type 0} (chosen : JudgedView → Bool) (shown : JudgedView → X) (log further : List Event)
    → map shown (filter chosen (judged_cells (log ++ further)))
    ≡ map shown (filter chosen (judged_cells log)) ++ map shown (filter chosen (judged_cells further))
chosen-append chosen shown log further =
    ap (λ (cells : List JudgedView). map shown (filter chosen cells)) (judged-append log further)
    ∙ ap (map shown) (filter-append chosen (judged_cells log) (judged_cells further))
    ∙ map-append shown (filter chosen (judged_cells log)) (filter chosen (judged_cells further))

pub verdicts_on-append : (line : ℕ) (log further : List Event) → verdicts_on line (log ++ further) ≡ verdicts_on line log ++ verdicts_on line further
verdicts_on-append line log further = chosen-append (λ judged. judged.line == line) (λ judged. judged.verdict) log further

pub cells_on-append : (line : ℕ) (log further : List Event) → cells_on line (log ++ further) ≡ cells_on line log ++ cells_on line further
cells_on-append line log further = chosen-append (λ judged. judged.line == line) as_it_came log further

pub cells_of-append : (shape : Shape) (vc : Vc) (log further : List Event)
    → cells_judged_on shape vc (log ++ further) ≡ cells_judged_on shape vc log ++ cells_judged_on shape vc further
cells_of-append shape vc log further =
    chosen-append (λ judged. is_same_vc vc (vc_of shape.side judged.cell)) as_it_came log further

pub program_named-append : (vc : Vc) (program : Id) (log further : List Event)
    → program_after vc program (log ++ further) ≡ program_after vc (program_after vc program log) further
program_named-append vc program log further =
    fold-append (λ (named : Id) (event : Event). named_after vc named event.reply event.step) program log further

-- An event whose reply has no judged cell adds none.
pub none-judged : (step : Step) (reply : Reply) → judged_in_reply reply ≡ None → judged_cells (event_of step reply ∷ []) ≡ []
none-judged step reply none = ap (λ (o : Option JudgedView). filter_map (λ (event : Event). o) (event_of step reply ∷ [])) none
