-- The agreement of lines and of seatings with the connections, after a change of one connection.
use Rattle.std.proofs.Common.{◌≡◌, ◌≢◌, ℕ, Bool, Some, None, List, set, refl, sym, ap, subst, ◌∙◌, inl, inr}
use Rattle.std.specs.Prelude.{slice_get, option_map}
use Rattle.std.proofs.lemmas.Bool.{cases_eq}
use Rattle.std.proofs.lemmas.List.{length-set, set-get_or}
use Rattle.std.proofs.lemmas.Option.{slice_get_within, get_or_from_slice_get}
use Rattle.upc_cell.specs.declared.vc.Vc.{Vc}
use Rattle.upc_cell.proofs.Public.{vc_cases}
use Rattle.leaky.specs.declared.verdict.Verdict.{Verdict}
use Rattle.line_record.specs.declared.owner.Owner.{Owner}
use Rattle.line_record.specs.Directory.{DirectoryView, seating_at, Sits}
use Rattle.line_record.specs.Line.{LineView}
use Rattle.line_record.specs.Tally.{tally_of}
use Rattle.card_core.specs.declared.shape.Shape.{Shape}
use Rattle.card_core.specs.World.{Connection, connection_in, without_connection, with_connection}
use Rattle.card_core.specs.Agreement.{SeatingsAgree, LinesAgree, Serves, IsLineOf, seating_of, owner_of}
use Rattle.gen_arena.proofs.Public.{slice_get-set_same, slice_get-set_other}
use Rattle.card_core.proofs.LookUps.{same_some}
use Rattle.card_core.proofs.ConnectionLemmas.{with-here, with-others, without-here, without-others}

module _ {X : Type 0} where
  pub get-set_same : (xs : List X) (k : ℕ) (x y : X) → slice_get xs k ≡ Some y → slice_get (set xs k x) k ≡ Some x
  get-set_same xs k x y at = slice_get-set_same xs k x (slice_get_within xs k y at)

  -- Writing an item that is there already changes nothing.
  pub set-again : (xs : List X) (k : ℕ) (x : X) → slice_get xs k ≡ Some x → set xs k x ≡ xs
  set-again xs k x at = ap (set xs k) (sym (get_or_from_slice_get xs k x x at)) ∙ set-get_or xs k x

module _ (shape : Shape) (lines : List LineView) (connections : List (Vc × Connection)) (verdicts : ℕ → List Verdict)
    (agrees : LinesAgree shape lines connections verdicts) where
  -- One line changed, and so did its verdicts.
  pub record Change (number : ℕ) (line next : LineView) (after : ℕ → List Verdict) : Type 0 where
    pub there : slice_get lines number ≡ Some line
    pub journal : next.journal ≡ line.journal
    pub counts : next.state.counts ≡ tally_of (after number)
    pub others : (other : ℕ) → other ≢ number → after other ≡ verdicts other

  module _ (number : ℕ) (line next : LineView) (after : ℕ → List Verdict) (change : Change number line next after) where
    here : slice_get (set lines number next) number ≡ Some next
    here = get-set_same lines number next line change.there

    -- The item at this place is the new line.
    now_there : (k : ℕ) (l : LineView) → slice_get (set lines number next) k ≡ Some l → k ≡ number → next ≡ l
    now_there k l at e =
        same_some next l (sym here ∙ subst (λ (n : ℕ). slice_get (set lines number next) n ≡ Some l) e at)

    was_there : (k : ℕ) (l : LineView) → slice_get (set lines number next) k ≡ Some l → k ≢ number → slice_get lines k ≡ Some l
    was_there k l at apart = sym (slice_get-set_other lines number k next apart) ∙ at

    journals-set : (k : ℕ) (l : LineView) → slice_get (set lines number next) k ≡ Some l → l.journal ≡ shape.journal
    journals-set k l at = elim (cases_eq k number) [
      | inl e ↦ ap (λ (x : LineView). x.journal) (sym (now_there k l at e)) ∙ change.journal ∙ agrees.journals number line change.there
      | inr apart ↦ agrees.journals k l (was_there k l at apart)
    ]

    counts-set : (k : ℕ) (l : LineView) → slice_get (set lines number next) k ≡ Some l → l.state.counts ≡ tally_of (after k)
    counts-set k l at = elim (cases_eq k number) [
      | inl e ↦ ap (λ (x : LineView). x.state.counts) (sym (now_there k l at e)) ∙ change.counts ∙ ap (λ (n : ℕ). tally_of (after n)) (sym e)
      | inr apart ↦ agrees.counts k l (was_there k l at apart) ∙ ap tally_of (sym (change.others k apart))
    ]

    -- A connection on another line.
    serving-other : (vc : Vc) (connection : Connection) → connection_in connections vc ≡ Some connection → connection.line ≢ number
        → (l : LineView) × (slice_get (set lines number next) connection.line ≡ Some l) × Serves l vc connection (after connection.line)
    serving-other vc connection found apart =
        let old = agrees.serving vc connection found in (
          old.0,
          slice_get-set_other lines number connection.line next apart ∙ old.1,
          subst (λ (vs : List Verdict). Serves old.0 vc connection vs) (sym (change.others connection.line apart)) old.2,
        )

    -- The line now serves this connection, and no other line does.
    pub lines-with : (vc : Vc) (connection : Connection) → connection.line ≡ number → Serves next vc connection (after number)
        → ((other : Vc) (another : Connection) → other ≢ vc → connection_in connections other ≡ Some another → another.line ≢ number)
        → ((old : Connection) → connection_in connections vc ≡ Some old → old.line ≡ number)
        → LinesAgree shape (set lines number next) (with_connection connections vc connection) after
    lines-with vc connection on serves apart own = record {
      sized = length-set lines number next ∙ agrees.sized;
      journals = journals-set;
      serving = λ other another at. elim (vc_cases other vc) [
        | inl e ↦
            let Goal : Vc → Connection → Type 0 = λ v x.
            (l : LineView) × (slice_get (set lines number next) x.line ≡ Some l) × Serves l v x (after x.line) in
            let is : connection ≡ another = same_some connection another (sym (with-here connections vc connection)
            ∙ subst (λ (v : Vc). connection_in (with_connection connections vc connection) v ≡ Some another) e at) in
            let there : slice_get (set lines number next) connection.line ≡ Some next =
            subst (λ (n : ℕ). slice_get (set lines number next) n ≡ Some next) (sym on) here in
            let served : Serves next vc connection (after connection.line) =
            subst (λ (n : ℕ). Serves next vc connection (after n)) (sym on) serves in
            subst (λ (v : Vc). Goal v another) (sym e) (subst (λ (x : Connection). Goal vc x) is (next, there, served))
        | inr away ↦
            let was = sym (with-others connections vc connection other away) ∙ at in
            serving-other other another was (apart other another away was)
      ];
      owned = λ k l owner at has. elim (cases_eq k number) [
        | inl e ↦
            let same : owner_of vc connection ≡ owner = same_some (owner_of vc connection) owner
            (sym serves.owner ∙ ap (λ (x : LineView). x.owner) (now_there k l at e) ∙ has) in
            subst (λ (o : Owner). IsLineOf (with_connection connections vc connection) k o) same (record {
              connection = connection;
              found = with-here connections vc connection;
              incarnation = refl;
              line = on ∙ sym e;
            })
        | inr off ↦
            let was = agrees.owned k l owner (was_there k l at off) has in
            elim (vc_cases owner.vc vc) [
              | inl e ↦ absurd (off (sym was.line ∙ own was.connection
                  (subst (λ (v : Vc). connection_in connections v ≡ Some was.connection) e was.found)))
              | inr away ↦ record {
                connection = was.connection;
                found = with-others connections vc connection owner.vc away ∙ was.found;
                incarnation = was.incarnation;
                line = was.line;
              }
            ]
      ];
      counts = counts-set;
    }

    -- The line no longer serves a connection.
    pub lines-without : (vc : Vc) → next.owner ≡ None
        → ((other : Vc) (another : Connection) → other ≢ vc → connection_in connections other ≡ Some another → another.line ≢ number)
        → ((old : Connection) → connection_in connections vc ≡ Some old → old.line ≡ number)
        → LinesAgree shape (set lines number next) (without_connection connections vc) after
    lines-without vc free apart own = record {
      sized = length-set lines number next ∙ agrees.sized;
      journals = journals-set;
      serving = λ other another at. elim (vc_cases other vc) [
        | inl e ↦
            let gone : None ≡ Some another = sym (without-here connections vc)
            ∙ subst (λ (v : Vc). connection_in (without_connection connections vc) v ≡ Some another) e at in
            absurd (cc)
        | inr away ↦
            let was = sym (without-others connections vc other away) ∙ at in
            serving-other other another was (apart other another away was)
      ];
      owned = λ k l owner at has. elim (cases_eq k number) [
        | inl e ↦
            let none : None ≡ Some owner = sym free ∙ ap (λ (x : LineView). x.owner) (now_there k l at e) ∙ has in
            absurd (cc)
        | inr off ↦
            let was = agrees.owned k l owner (was_there k l at off) has in
            elim (vc_cases owner.vc vc) [
              | inl e ↦ absurd (off (sym was.line ∙ own was.connection
                  (subst (λ (v : Vc). connection_in connections v ≡ Some was.connection) e was.found)))
              | inr away ↦ record {
                connection = was.connection;
                found = without-others connections vc owner.vc away ∙ was.found;
                incarnation = was.incarnation;
                line = was.line;
              }
            ]
      ];
      counts = counts-set;
    }

-- A line that only became ready serves as before.
serves-ready : (line : LineView) (ready : Bool) (vc : Vc) (connection : Connection) (verdicts : List Verdict)
    → Serves line vc connection verdicts → Serves (record line { ready = ready }) vc connection verdicts
serves-ready line ready vc connection verdicts serves = record {
  owner = serves.owner;
  contracts = serves.contracts;
  entries = serves.entries;
  start = serves.start;
  state = serves.state;
  together = serves.together;
}

-- The lines still agree.
pub lines-ready : (shape : Shape) (lines : List LineView) (connections : List (Vc × Connection)) (verdicts : ℕ → List Verdict)
    (agrees : LinesAgree shape lines connections verdicts) (number : ℕ) (line next : LineView)
    → slice_get lines number ≡ Some line → next ≡ record line { ready = next.ready }
    → LinesAgree shape (set lines number next) connections verdicts
lines-ready shape lines connections verdicts agrees number line next there same =
    let change : Change shape lines connections verdicts agrees number line next verdicts = record {
      there = there;
      journal = ap (λ (l : LineView). l.journal) same;
      counts = ap (λ (l : LineView). l.state.counts) same ∙ agrees.counts number line there;
      others = λ other apart. refl;
    } in
    record {
      sized = length-set lines number next ∙ agrees.sized;
      journals = journals-set shape lines connections verdicts agrees number line next verdicts change;
      serving = λ vc connection found. elim (cases_eq connection.line number) [
        | inl on ↦
            let old = agrees.serving vc connection found in
            let is : old.0 ≡ line = same_some old.0 line (sym old.1 ∙ ap (slice_get lines) on ∙ there) in
            let serves : Serves line vc connection (verdicts connection.line) =
            subst (λ (l : LineView). Serves l vc connection (verdicts connection.line)) is old.2 in (
              next,
              ap (slice_get (set lines number next)) on ∙ get-set_same lines number next line there,
              subst (λ (l : LineView). Serves l vc connection (verdicts connection.line)) (sym same)
                  (serves-ready line next.ready vc connection (verdicts connection.line) serves),
            )
        | inr off ↦ serving-other shape lines connections verdicts agrees number line next verdicts change vc connection found off
      ];
      owned = λ k l owner at has. elim (cases_eq k number) [
        | inl e ↦
            let is : next ≡ l = now_there shape lines connections verdicts agrees number line next verdicts change k l at e in
            agrees.owned k line owner (ap (slice_get lines) e ∙ there)
            (sym (ap (λ (x : LineView). x.owner) same) ∙ ap (λ (x : LineView). x.owner) is ∙ has)
        | inr off ↦ agrees.owned k l owner (was_there shape lines connections verdicts agrees number line next verdicts change k l at off) has
      ];
      counts = counts-set shape lines connections verdicts agrees number line next verdicts change;
    }

module _ (shape : Shape) (directory : DirectoryView) (connections : List (Vc × Connection)) (used : ℕ)
    (agrees : SeatingsAgree shape directory connections used) where
  pub seatings-with : (vc : Vc) (connection : Connection) (new : DirectoryView) (then : ℕ)
      → Sits directory vc (Some (seating_of connection)) new → new.used ≡ then
      → SeatingsAgree shape new (with_connection connections vc connection) then
  seatings-with vc connection new then sits used_then = record {
    lines = sits.same_lines ∙ agrees.lines;
    used_up = used_then;
    seatings = λ other. elim (vc_cases other vc) [
      | inl e ↦ subst (λ (v : Vc). seating_at new v ≡ option_map seating_of (connection_in (with_connection connections vc connection) v)) (sym e)
          (sits.here ∙ sym (ap (option_map seating_of) (with-here connections vc connection)))
      | inr away ↦ sits.others other away ∙ agrees.seatings other
          ∙ ap (option_map seating_of) (sym (with-others connections vc connection other away))
    ];
  }

  -- A connection with the same seating as before.
  pub seatings-kept : (vc : Vc) (connection : Connection) → seating_at directory vc ≡ Some (seating_of connection)
      → SeatingsAgree shape directory (with_connection connections vc connection) used
  seatings-kept vc connection sits = seatings-with vc connection directory used
      (record { here = sits; others = λ other away. refl; same_lines = refl }) agrees.used_up

  pub seatings-without : (vc : Vc) (new : DirectoryView) → Sits directory vc None new → new.used ≡ directory.used
      → SeatingsAgree shape new (without_connection connections vc) used
  seatings-without vc new sits same = record {
    lines = sits.same_lines ∙ agrees.lines;
    used_up = same ∙ agrees.used_up;
    seatings = λ other. elim (vc_cases other vc) [
      | inl e ↦ subst (λ (v : Vc). seating_at new v ≡ option_map seating_of (connection_in (without_connection connections vc) v)) (sym e)
          (sits.here ∙ sym (ap (option_map seating_of) (without-here connections vc)))
      | inr away ↦ sits.others other away ∙ agrees.seatings other
          ∙ ap (option_map seating_of) (sym (without-others connections vc other away))
    ];
  }
