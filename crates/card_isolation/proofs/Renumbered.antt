-- A connection on its own, by the numbers of its arrivals instead of the ports.
use Rattle.std.proofs.Common.{◌≡◌, ◌≢◌, ℕ, ◌<◌, false, cond, List, [], ◌∷◌, Option, Some, None, refl, sym, ap, ◌∙◌, subst, inl, inr, arith}
use Rattle.std.proofs.lemmas.Bool.{eq-eqb, ne_eqb, cases_eq}
use Rattle.card_isolation.specs.Act.{Act, sets_up, reloads, releases, cuts, enters, looks_up, judges}
use Rattle.card_isolation.specs.Outcome.{Outcome}
use Rattle.card_isolation.specs.OwnEvents.{OwnEvent}
use Rattle.card_isolation.specs.ByArrival.{Arrivals, arrivals_after, with_number, by_arrival_after}
use Rattle.card_isolation.proofs.Basics.{with_at}
use Rattle.card_isolation.proofs.Alone.{OwnConnection, Place, idle, came, looked, Alone, ended, outcome_at, judged_at, piece_alone, found_alone, named_outcome, set_up, reloaded, cut_off, LooksUp, is_idle, Does, Plays}

-- A function at the number that was written, and at another.

with_at-here : {X : Type 0} (values : ℕ → X) (at other : ℕ) (value : X) → other ≡ at → with_at values at value other ≡ value
with_at-here values at other value is = ap (λ b. cond b value (values other)) (eq-eqb other at is)

with_at-other : {X : Type 0} (values : ℕ → X) (at other : ℕ) (value : X) → other ≢ at → with_at values at value other ≡ values other
with_at-other values at other value apart = ap (λ b. cond b value (values other)) (ne_eqb other at apart)

-- The state by numbers of arrivals matches the state by ports.
pub record Matches (arrivals : Arrivals) (ports numbers : Alone) : Type 0 where
  pub connection : numbers.connection ≡ ports.connection
  pub places : (port : ℕ) → is_idle (ports.places port) ≡ false → numbers.places (arrivals.latest port) ≡ ports.places port
  pub early : (port : ℕ) → is_idle (ports.places port) ≡ false → arrivals.latest port < arrivals.entered
  pub apart : (one other : ℕ) → is_idle (ports.places one) ≡ false → is_idle (ports.places other) ≡ false
      → arrivals.latest one ≡ arrivals.latest other → one ≡ other

-- The connection changed, and no port did.
with-connection : (arrivals : Arrivals) (ports numbers : Alone) (one other : Option OwnConnection) → other ≡ one → Matches arrivals ports numbers
    → Matches arrivals (record ports { connection = one }) (record numbers { connection = other })
with-connection arrivals ports numbers one other same m = record {
  connection = same;
  places = m.places;
  early = m.early;
  apart = m.apart;
}

-- The cell of a port changed, and so did that of its number.
with-place : (arrivals : Arrivals) (ports numbers : Alone) (one other : Option OwnConnection) (port : ℕ) (place : Place) → other ≡ one
    → is_idle (ports.places port) ≡ false → Matches arrivals ports numbers
    → Matches arrivals (record { connection = one; places = with_at ports.places port place })
    (record { connection = other; places = with_at numbers.places (arrivals.latest port) place })
with-place arrivals ports numbers one other port place same busy m =
    let was : (at : ℕ) → is_idle (with_at ports.places port place at) ≡ false → is_idle (ports.places at) ≡ false = λ at e.
    elim (cases_eq at port) [
      | inl is ↦ subst (λ p. is_idle (ports.places p) ≡ false) (sym is) busy
      | inr away ↦ ap is_idle (sym (with_at-other ports.places port at place away)) ∙ e
    ] in
    record {
      connection = same;
      places = λ at e. elim (cases_eq at port) [
        | inl is ↦
            with_at-here numbers.places (arrivals.latest port) (arrivals.latest at) place (ap arrivals.latest is)
            ∙ sym (with_at-here ports.places port at place is)
        | inr away ↦
            with_at-other numbers.places (arrivals.latest port) (arrivals.latest at) place
            (λ one_number. away (m.apart at port (was at e) busy one_number))
            ∙ m.places at (was at e)
            ∙ sym (with_at-other ports.places port at place away)
      ];
      early = λ at e. m.early at (was at e);
      apart = λ at another e e_too. m.apart at another (was at e) (was another e_too);
    }

-- A cell entered.
with-entered : (arrivals : Arrivals) (ports numbers : Alone) (port : ℕ) (cell : List ℕ) (moment : ℕ) → Matches arrivals ports numbers
    → Matches (arrivals_after arrivals (enters port cell moment))
    (record ports { places = with_at ports.places port (came cell moment) })
    (record numbers { places = with_at numbers.places arrivals.entered (came cell moment) })
with-entered arrivals ports numbers port cell moment m =
    let place : Place = came cell moment in
    let number : ℕ → ℕ = with_at arrivals.latest port arrivals.entered in
    let was : (at : ℕ) → at ≢ port → is_idle (with_at ports.places port place at) ≡ false → is_idle (ports.places at) ≡ false =
    λ at away e. ap is_idle (sym (with_at-other ports.places port at place away)) ∙ e in
    let here : (at : ℕ) → at ≡ port → number at ≡ arrivals.entered = λ at is.
    with_at-here arrivals.latest port at arrivals.entered is in
    let there : (at : ℕ) → at ≢ port → number at ≡ arrivals.latest at = λ at away.
    with_at-other arrivals.latest port at arrivals.entered away in
    let less : (at : ℕ) → at ≢ port → is_idle (with_at ports.places port place at) ≡ false → number at < arrivals.entered = λ at away e.
    subst (λ n. n < arrivals.entered) (sym (there at away)) (m.early at (was at away e)) in
    record {
      connection = m.connection;
      places = λ at e. elim (cases_eq at port) [
        | inl is ↦
            with_at-here numbers.places arrivals.entered (number at) place (here at is)
            ∙ sym (with_at-here ports.places port at place is)
        | inr away ↦
            with_at-other numbers.places arrivals.entered (number at) place (λ same. absurd (omega (arith, less at away e, same)))
            ∙ ap numbers.places (there at away)
            ∙ m.places at (was at away e)
            ∙ sym (with_at-other ports.places port at place away)
      ];
      early = λ at e. elim (cases_eq at port) [
        | inl is ↦ omega (arith, here at is)
        | inr away ↦ omega (arith, less at away e)
      ];
      apart = λ at another e e_too same. elim (cases_eq at port) [
        | inl is ↦ elim (cases_eq another port) [
          | inl is_too ↦ is ∙ sym is_too
          | inr away ↦ absurd (omega (arith, here at is, less another away e_too, same))
        ]
        | inr away ↦ elim (cases_eq another port) [
          | inl is_too ↦ absurd (omega (arith, here another is_too, less at away e, same))
          | inr away_too ↦
              m.apart at another (was at away e) (was another away_too e_too)
              (sym (there at away) ∙ same ∙ there another away_too)
        ]
      ];
    }

-- The connection was released.

ended-busy : (place : Place) → is_idle (ended place) ≡ false → is_idle place ≡ false
ended-busy idle e = e
ended-busy (came cell moment) e = refl
ended-busy (looked cell moment value code current) e = refl

with-ended : (arrivals : Arrivals) (ports numbers : Alone) → Matches arrivals ports numbers
    → Matches arrivals (record { connection = None; places = λ port. ended (ports.places port) })
    (record { connection = None; places = λ number. ended (numbers.places number) })
with-ended arrivals ports numbers m = record {
  connection = refl;
  places = λ at e. ap ended (m.places at (ended-busy (ports.places at) e));
  early = λ at e. m.early at (ended-busy (ports.places at) e);
  apart = λ one other e e_too. m.apart one other (ended-busy (ports.places one) e) (ended-busy (ports.places other) e_too);
}

-- An event has the same effect by numbers as by ports.
pub record DoesToo (journal : ℕ) (arrivals : Arrivals) (numbers : Alone) (act : Act) (outcome : Outcome) (after : Alone) : Type 0 where
  pub next : Alone
  pub does : Does journal numbers (record { act = with_number arrivals act; outcome = outcome }) next
  pub matching : Matches (arrivals_after arrivals act) after next

does-too : (journal : ℕ) (arrivals : Arrivals) (ports numbers : Alone) (act : Act) (outcome : Outcome) (after : Alone)
    → Matches arrivals ports numbers → Does journal ports (record { act = act; outcome = outcome }) after
    → DoesToo journal arrivals numbers act outcome after
does-too journal arrivals ports numbers (sets_up contracts code) outcome after m does = record {
  next = record numbers { connection = Some (set_up contracts code) };
  does = record { fits = tt; outcome = does.outcome; next = refl };
  matching = subst (λ (a : Alone). Matches arrivals a (record numbers { connection = Some (set_up contracts code) })) (sym does.next)
      (with-connection arrivals ports numbers (Some (set_up contracts code)) (Some (set_up contracts code)) refl m);
}
does-too journal arrivals ports numbers (reloads code) outcome after m does = record {
  next = record numbers { connection = reloaded numbers.connection code };
  does = record { fits = tt; outcome = does.outcome ∙ sym (ap (λ (c : Option OwnConnection). named_outcome c) m.connection); next = refl };
  matching = subst (λ (a : Alone). Matches arrivals a (record numbers { connection = reloaded numbers.connection code })) (sym does.next)
      (with-connection arrivals ports numbers (reloaded ports.connection code) (reloaded numbers.connection code)
      (ap (λ (c : Option OwnConnection). reloaded c code) m.connection) m);
}
does-too journal arrivals ports numbers releases outcome after m does = record {
  next = record { connection = None; places = λ number. ended (numbers.places number) };
  does = record { fits = tt; outcome = does.outcome ∙ sym (ap piece_alone m.connection); next = refl };
  matching = subst (λ (a : Alone). Matches arrivals a (record { connection = None; places = λ number. ended (numbers.places number) })) (sym does.next)
      (with-ended arrivals ports numbers m);
}
does-too journal arrivals ports numbers cuts outcome after m does = record {
  next = record numbers { connection = cut_off numbers.connection };
  does = record { fits = tt; outcome = does.outcome ∙ sym (ap piece_alone m.connection); next = refl };
  matching = subst (λ (a : Alone). Matches arrivals a (record numbers { connection = cut_off numbers.connection })) (sym does.next)
      (with-connection arrivals ports numbers (cut_off ports.connection) (cut_off numbers.connection) (ap cut_off m.connection) m);
}
does-too journal arrivals ports numbers (enters port cell moment) outcome after m does = record {
  next = record numbers { places = with_at numbers.places arrivals.entered (came cell moment) };
  does = record { fits = tt; outcome = does.outcome; next = refl };
  matching = subst (λ (a : Alone). Matches (arrivals_after arrivals (enters port cell moment)) a (record numbers { places = with_at numbers.places arrivals.entered (came cell moment) }))
      (sym does.next) (with-entered arrivals ports numbers port cell moment m);
}
does-too journal arrivals ports numbers (looks_up port) outcome after m does =
    let place : Place = does.next.0 in
    let at : numbers.places (arrivals.latest port) ≡ ports.places port = m.places port does.fits in
    let looks : LooksUp numbers.connection (numbers.places (arrivals.latest port)) place =
    subst (λ (c : Option OwnConnection). LooksUp c (numbers.places (arrivals.latest port)) place) (sym m.connection)
    (subst (λ (p : Place). LooksUp ports.connection p place) (sym at) does.next.1) in
    let next : Alone = record numbers { places = with_at numbers.places (arrivals.latest port) place } in
    record {
      next = next;
      does = record {
        fits = ap is_idle at ∙ does.fits;
        outcome = does.outcome ∙ sym (ap found_alone m.connection);
        next = (place, looks, refl);
      };
      matching = subst (λ (a : Alone). Matches arrivals a next) (sym does.next.2)
          (with-place arrivals ports numbers ports.connection numbers.connection port place m.connection does.fits m);
    }
does-too journal arrivals ports numbers (judges port) outcome after m does =
    let at : numbers.places (arrivals.latest port) ≡ ports.places port = m.places port does.fits in
    let longer : judged_at journal numbers.connection (numbers.places (arrivals.latest port)) ≡ judged_at journal ports.connection (ports.places port) =
    ap (λ (c : Option OwnConnection). judged_at journal c (numbers.places (arrivals.latest port))) m.connection
    ∙ ap (judged_at journal ports.connection) at in
    let next : Alone = record {
      connection = judged_at journal numbers.connection (numbers.places (arrivals.latest port));
      places = with_at numbers.places (arrivals.latest port) idle;
    } in
    record {
      next = next;
      does = record {
        fits = ap is_idle at ∙ does.fits;
        outcome = does.outcome
            ∙ sym (ap (λ (c : Option OwnConnection). outcome_at journal c (numbers.places (arrivals.latest port))) m.connection
            ∙ ap (outcome_at journal ports.connection) at);
        next = refl;
      };
      matching = subst (λ (a : Alone). Matches arrivals a next) (sym does.next)
          (with-place arrivals ports numbers (judged_at journal ports.connection (ports.places port))
          (judged_at journal numbers.connection (numbers.places (arrivals.latest port))) port idle longer does.fits m);
    }

pub plays-numbered : (journal : ℕ) (arrivals : Arrivals) (ports numbers : Alone) (events : List OwnEvent)
    → Matches arrivals ports numbers → Plays journal ports events → Plays journal numbers (by_arrival_after arrivals events)
plays-numbered journal arrivals ports numbers [] m plays = tt
plays-numbered journal arrivals ports numbers (event ∷ later) m plays =
    let too = does-too journal arrivals ports numbers event.act event.outcome plays.0 m plays.1 in
    (too.next, too.does, plays-numbered journal (arrivals_after arrivals event.act) plays.0 too.next later too.matching plays.2)
