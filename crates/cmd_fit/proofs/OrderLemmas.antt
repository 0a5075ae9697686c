-- The lines of the table are those of the flows with cells.
use Rattle.std.proofs.Common.{◌≡◌, ◌≢◌, ℕ, Bool, true, false, cond, List, [], ◌∷◌, Option, Some, None, Result, Ok, Err, refl, sym, ap, ◌∙◌, subst}
use Rattle.std.specs.Bool.{⊤}
use Rattle.std.specs.BTreeMap.{insert_entry, is_at}
use Rattle.std.specs.Map.{lookup}
use Rattle.std.specs.Ordering.{is_eq, match_ordering, nat_cmp}
use Rattle.std.specs.declared.cmp.Ordering.{Ordering}
use Rattle.std.specs.declared.cmp.Ordering.TheVariants.{Less, Equal, Greater}
use Rattle.std.proofs.lemmas.Map.Lookups.{exact_unsigned}
use Rattle.std.proofs.lemmas.Option.{same_Some}
use Rattle.captures_text.specs.CaptureText.{RunsThrough}
use Rattle.captures_text.specs.declared.captured_cell.CapturedCell.{CapturedCell}
use Rattle.cmd_fit.specs.Fits.{fit_in, is_of_class, with_fit}
use Rattle.cmd_fit.specs.FitLaws.{LinesAreOfFlows}
use Rattle.cmd_fit.specs.FitText.{FitWorld, fit_answer, fit_rules, fit_start, fits_with_cell, flow_key, put_in_order}
use Rattle.cmd_fit.specs.Flows.{flow_of, is_same_flow}
use Rattle.cmd_fit.specs.declared.flow_fit.FlowFit.{FlowFit}
use Rattle.cmd_fit.specs.declared.fault.FitFault.{FitFault}
use Rattle.cmd_fit.specs.declared.flow.Flow.{Flow}
use Rattle.cmd_fit.proofs.FitLemmas.{fit_in-others}
use Rattle.cmd_fit.specs.inner.FlowPlaces.{IsSmall}
use Rattle.cmd_fit.proofs.FlowLemmas.{channel_fits, cmp-apart, cmp-itself, flow_itself, flow_same, keys-apart, value_fits}
use Rattle.cmd_fit.proofs.RunLemmas.{grew-by}

-- Numbers in order.

is-equal : (x y : ℕ) → is_eq (nat_cmp x y) ≡ true → x ≡ y
is-equal x y is =
    let choice : (r : Ordering) → nat_cmp x y ≡ r → is_eq r ≡ true → x ≡ y = elim [
      | Less ↦ λ e no. absurd (let bad : false ≡ true = no in cc)
      | Equal ↦ λ e no. exact_unsigned x y e
      | Greater ↦ λ e no. absurd (let bad : false ≡ true = no in cc)
    ] in
    choice (nat_cmp x y) refl is

-- What a sorted list has at a key after an entry is put into it.

same-twice : {X : Type 0} (b : Bool) (v w : X) (found : Option X) → cond b (Some v) found ≡ cond b (Some v) (cond b (Some w) found)
same-twice true v w found = refl
same-twice false v w found = refl

find-put : (entries : List (ℕ × FlowFit)) (k q : ℕ) (v : FlowFit)
    → lookup (is_at (nat_cmp q)) (insert_entry nat_cmp entries k v) ≡ cond (is_eq (nat_cmp q k)) (Some v) (lookup (is_at (nat_cmp q)) entries)
find-put [] k q v = refl
find-put (e ∷ entries) k q v =
    let At : List (ℕ × FlowFit) → Option FlowFit = λ es. lookup (is_at (nat_cmp q)) es in
    let wanted : Option FlowFit = cond (is_eq (nat_cmp q k)) (Some v) (At (e ∷ entries)) in
    let choice : (r : Ordering) → nat_cmp k e.0 ≡ r
    → At (match_ordering r ((k, v) ∷ e ∷ entries) ((e.0, v) ∷ entries) (e ∷ insert_entry nat_cmp entries k v)) ≡ wanted = elim [
      | Less ↦ λ r. refl
      | Equal ↦ λ r.
          let same : k ≡ e.0 = exact_unsigned k e.0 r in
          same-twice (is_eq (nat_cmp q e.0)) v e.1 (At entries)
          ∙ ap (λ n. cond (is_eq (nat_cmp q n)) (Some v) (At (e ∷ entries))) (sym same)
      | Greater ↦ λ r.
          let rest = find-put entries k q v in
          let by : (b : Bool) → is_eq (nat_cmp q k) ≡ b
          → cond (is_eq (nat_cmp q e.0)) (Some e.1) (cond b (Some v) (At entries)) ≡ cond b (Some v) (At (e ∷ entries)) = elim [
            | true ↦ λ is.
                let apart : q ≢ e.0 = λ same.
                let equal : nat_cmp k e.0 ≡ Equal = ap (λ n. nat_cmp k n) (sym same ∙ is-equal q k is) ∙ cmp-itself k in
                let no : Greater ≡ Equal = sym r ∙ equal in
                cc in
                ap (λ b. cond b (Some e.1) (Some v)) (cmp-apart q e.0 apart)
            | false ↦ λ is. refl
          ] in
          ap (λ (found : Option FlowFit). cond (is_eq (nat_cmp q e.0)) (Some e.1) found) rest
          ∙ by (is_eq (nat_cmp q k)) refl
    ] in
    choice (nat_cmp k e.0) refl

-- States of different flows, each of which is small.
abbrev AreApart : List FlowFit → Type 0
AreApart [] = ⊤
AreApart (fit ∷ fits) = (fit_in fit.flow fits ≡ None) × (IsSmall fit.flow × AreApart fits)

abbrev or_else : Option FlowFit → Option FlowFit → Option FlowFit
or_else None other = other
or_else (Some fit) other = Some fit

put-all : (fits : List FlowFit) (ordered : List (ℕ × FlowFit)) (flow : Flow) → AreApart fits → IsSmall flow
    → lookup (is_at (nat_cmp (flow_key flow))) (put_in_order ordered fits)
    ≡ or_else (fit_in flow fits) (lookup (is_at (nat_cmp (flow_key flow))) ordered)
put-all [] ordered flow apart small = refl
put-all (fit ∷ fits) ordered flow apart small =
    let key = flow_key flow in
    let before = lookup (is_at (nat_cmp key)) ordered in
    let rest = put-all fits (insert_entry nat_cmp ordered (flow_key fit.flow) fit) flow apart.1.1 small in
    let put = find-put ordered (flow_key fit.flow) key fit in
    let choice : (b : Bool) → is_same_flow flow fit.flow ≡ b
    → or_else (fit_in flow fits) (cond (is_eq (nat_cmp key (flow_key fit.flow))) (Some fit) before)
    ≡ or_else (cond b (Some fit) (fit_in flow fits)) before = elim [
      | true ↦ λ e.
          let same : flow ≡ fit.flow = flow_same flow fit.flow e in
          let none : fit_in flow fits ≡ None = subst (λ (v : Flow). fit_in v fits ≡ None) (sym same) apart.0 in
          let here : is_eq (nat_cmp key (flow_key fit.flow)) ≡ true =
          ap (λ (v : Flow). is_eq (nat_cmp key (flow_key v))) (sym same) ∙ ap is_eq (cmp-itself key) in
          ap (λ (found : Option FlowFit). or_else found (cond (is_eq (nat_cmp key (flow_key fit.flow))) (Some fit) before)) none
          ∙ ap (λ b. cond b (Some fit) before) here
      | false ↦ λ e.
          let other : flow ≢ fit.flow = λ same.
          let itself : is_same_flow flow flow ≡ false = subst (λ (v : Flow). is_same_flow flow v ≡ false) (sym same) e in
          let no : true ≡ false = sym (flow_itself flow) ∙ itself in
          cc in
          ap (λ b. or_else (fit_in flow fits) (cond b (Some fit) before))
          (cmp-apart key (flow_key fit.flow) (keys-apart flow fit.flow small apart.1.0 other))
    ] in
    rest ∙ ap (or_else (fit_in flow fits)) put ∙ choice (is_same_flow flow fit.flow) refl

-- They stay apart.

apart-with : (fits : List FlowFit) (fit : FlowFit) → AreApart fits → IsSmall fit.flow → AreApart (with_fit fit fits)
apart-with [] fit apart small = (refl, (small, tt))
apart-with (first ∷ fits) fit apart small =
    let choice : (b : Bool) → is_same_flow fit.flow first.flow ≡ b → AreApart (cond b (fit ∷ fits) (first ∷ with_fit fit fits)) = elim [
      | true ↦ λ e.
          let same : fit.flow ≡ first.flow = flow_same fit.flow first.flow e in
          (subst (λ (v : Flow). fit_in v fits ≡ None) (sym same) apart.0, (small, apart.1.1))
      | false ↦ λ e.
          let other : first.flow ≢ fit.flow = λ same.
          let itself : is_same_flow fit.flow fit.flow ≡ false = subst (λ (v : Flow). is_same_flow fit.flow v ≡ false) same e in
          let no : true ≡ false = sym (flow_itself fit.flow) ∙ itself in
          cc in
          (fit_in-others fits fit first.flow other ∙ apart.0, (apart.1.0, apart-with fits fit apart.1.1 small))
    ] in
    choice (is_same_flow fit.flow first.flow) refl

apart-by : (world : FitWorld) (captured : CapturedCell) (next : FitWorld) (answer : Result (List FlowFit) FitFault)
    → fits_with_cell world captured ≡ answer
    → (fit_answer world captured.number answer).1 ≡ Some next → AreApart world.fits → AreApart next.fits
apart-by world captured next (Err fault) is goes apart = absurd (let no : None ≡ Some next = goes in cc)
apart-by world captured next (Ok new) is goes apart =
    let named = flow_of world.scope.side world.scope.rules captured.cell in
    let grew = grew-by world.scope.increment world.fits named captured.moment captured.number new is in
    let small : IsSmall named = (channel_fits world.scope.side captured.cell, value_fits world.scope.rules captured.cell) in
    let own : IsSmall grew.fit.flow = subst IsSmall (sym grew.own) small in
    subst (λ (w : FitWorld). AreApart w.fits) (same_Some (record world { fits = new }) next goes)
    (subst AreApart grew.is (apart-with world.fits grew.fit apart own))

apart-on : (world : FitWorld) (captured : CapturedCell) (next : FitWorld) (b : Bool)
    → (cond b (fit_answer world captured.number (fits_with_cell world captured)) ([], Some world)).1 ≡ Some next
    → AreApart world.fits → AreApart next.fits
apart-on world captured next true goes apart = apart-by world captured next (fits_with_cell world captured) refl goes apart
apart-on world captured next false goes apart = subst (λ (w : FitWorld). AreApart w.fits) (same_Some world next goes) apart

run-apart : (world last : FitWorld) (cells : List CapturedCell) → RunsThrough fit_rules world cells last → AreApart world.fits → AreApart last.fits
run-apart world last [] leads apart = subst (λ (w : FitWorld). AreApart w.fits) (sym leads) apart
run-apart world last (captured ∷ cells) (here, next, step, leads) apart =
    run-apart next last cells leads
    (apart-on world captured next (is_of_class world.scope.clp captured.cell) (ap (λ (s : List ℕ × Option FitWorld). s.1) step) apart)

or-none : (found : Option FlowFit) → or_else found None ≡ found
or-none None = refl
or-none (Some fit) = refl

pub lines-of-flows : LinesAreOfFlows
lines-of-flows scope cells last leads flow channel value =
    put-all last.fits [] flow (run-apart (fit_start scope) last cells leads tt) (channel, value) ∙ or-none (fit_in flow last.fits)
