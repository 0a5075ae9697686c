-- Cells of a buffer, judged one after another.
use Rattle.std.proofs.Common.{◌≡◌, ℕ, suc, ◌+◌, ◌*◌, ◌-◌, ◌<◌, ◌≤◌, min, List, [], ◌∷◌, ◌++◌, length, take, drop, set, get_or, Some, None, refl, sym, ap, subst, ◌∙◌, arith, length-take, length-drop, length-set, drop-set-lt, append_assoc, take-append-drop}
use Rattle.std.specs.Prelude.{◌⊎◌, Result, IfOk, IfErr}
use Rattle.std.proofs.lemmas.Grind.{drop_more_same}
use Rattle.std.proofs.lemmas.List.{drop-drop, drop_min, take_min, take_more, take_more_set}
use Rattle.std.proofs.lemmas.Option.{slice_get-get_or}
use Rattle.std.proofs.lemmas.Result.{IfErr-weaker, IfOk-weaker}
use Rattle.card_core.specs.Agreement.{CoreView}
use Rattle.upc_c.specs.CardArrival.{IsPolicedCell}
use Rattle.upc_c.specs.CardBatch.{ArePoliced, PolicesEach, IsNextRefused, buffer_after, cell_in}
use Rattle.upc_c.specs.CardHandle.{card_in, card_missing}
use Rattle.upc_c.specs.CellHeader.{IsCellFault}
use Rattle.upc_c.specs.declared.arrival.UpcAnswer.{UpcAnswer}
use Rattle.upc_c.specs.declared.card.UpcCard.{UpcCard}
use Rattle.upc_c.specs.declared.fault.UpcFault.{UpcFault}
use Rattle.upc_c.specs.inner.CellsOnCore.{PolicesFirst, PolicesNumber, PolicesOn, RefusesNext, RefusesOn}
use Rattle.upc_c.specs.inner.ReachedCore.{IsReachedCore}
use Rattle.upc_c.proofs.Policing.{without-card}

-- There is a card with any core that steps have led to.
card_with : (like : UpcCard) (core : CoreView) → IsReachedCore core → (card : UpcCard) × (card_in card ≡ Some core)
card_with like core reached = (
  record {
    live = 1;
    inner = record { at = like.inner.at; alloc = like.inner.alloc; core = Some core };
    marked = (λ e. absurd (omega arith), λ e. let no : Some core ≡ None = e in cc);
    reached = λ other e. let same : core ≡ other = cc in subst IsReachedCore same reached;
  },
  refl,
)

-- A card with the same core has judged the same cell.
policed-from : (first before after : UpcCard) (cell leaving : List ℕ) (moment : ℕ) (answer : UpcAnswer) → card_in before ≡ card_in first
    → IsPolicedCell before after cell moment answer leaving → IsPolicedCell first after cell moment answer leaving
policed-from first before after cell leaving moment answer same policed =
    let arrives = policed.arrives in record {
      sized = policed.sized;
      verdict = policed.verdict;
      number = policed.number;
      arrives = record { old = arrives.old; new = arrives.new; had = sym same ∙ arrives.had; has = arrives.has; answers = arrives.answers };
    }

-- One more cell after the others.
policed-last : (card middle after : UpcCard) (octets left : List ℕ) (stride number : ℕ) (moments : List ℕ) (answers : List UpcAnswer)
    (next moment : ℕ) (answer : UpcAnswer) (leaving : List ℕ) → PolicesEach card octets stride number moments answers middle left
    → next ≡ number + length moments → IsPolicedCell middle after (cell_in left stride next) moment answer leaving
    → PolicesEach card octets stride number (moments ++ moment ∷ []) (answers ++ answer ∷ []) after (buffer_after left stride next leaving)
policed-last card middle after octets left stride number [] [] next moment answer leaving each counted policed =
    let here : next ≡ number = omega arith in
    let same : IsPolicedCell middle after (cell_in octets stride number) moment answer leaving =
    subst (λ (n : ℕ). IsPolicedCell middle after (cell_in octets stride n) moment answer leaving) here
    (subst (λ (xs : List ℕ). IsPolicedCell middle after (cell_in xs stride next) moment answer leaving) each.1 policed) in (
      after,
      leaving,
      policed-from card middle after (cell_in octets stride number) leaving moment answer each.0 same,
      (refl, ap (λ (xs : List ℕ). buffer_after xs stride next leaving) each.1 ∙ ap (λ (n : ℕ). buffer_after octets stride n leaving) here),
    )
policed-last card middle after octets left stride number [] (other ∷ answers) next moment answer leaving each counted policed = absurd each
policed-last card middle after octets left stride number (first ∷ moments) [] next moment answer leaving each counted policed = absurd each
policed-last card middle after octets left stride number (first ∷ moments) (other ∷ answers) next moment answer leaving each counted policed = (
  each.0,
  each.1,
  each.2,
  policed-last each.0 middle after (buffer_after octets stride number each.1) left stride (suc number) moments answers next moment answer leaving
      each.3 (omega arith) policed,
)

-- No cell yet.
pub none-policed : (card after : UpcCard) (octets : List ℕ) (stride : ℕ) (moments : List ℕ) (answers : List UpcAnswer) → card_in after ≡ card_in card
    → ArePoliced card after octets octets stride moments answers answers 0
none-policed card after octets stride moments answers same =
    record { within = omega arith; each = (same, refl); sized = refl; rest = refl }

pub first-none : (core : CoreView) (octets : List ℕ) (stride : ℕ) (moments : List ℕ) (answers : List UpcAnswer)
    → PolicesFirst core core octets octets stride moments answers answers 0
first-none core octets stride moments answers =
    record { on = λ before after had has. none-policed before after octets stride moments answers (has ∙ sym had) }

-- The next cell of the buffer.
pub first-more : (old core new : CoreView) (octets left later : List ℕ) (stride : ℕ) (moments : List ℕ) (answers so_far : List UpcAnswer)
    (number other : ℕ) (answer : UpcAnswer) → IsReachedCore core → number < length moments → length moments ≤ length answers
    → PolicesFirst old core octets left stride moments answers so_far number
    → PolicesNumber core new left later stride number (get_or moments number other) answer
    → PolicesFirst old new octets later stride moments answers (set so_far number answer) (number + 1)
first-more old core new octets left later stride moments answers so_far number other answer reached below fits first cell = record {
  on = λ before after had has.
      let middle = card_with before core reached in
      let policed = first.on before middle.0 had middle.1 in
      let moment : ℕ = get_or moments number other in
      let sized = policed.sized in
      let within : number < length so_far = omega arith in
      let next : number < number + 1 = omega arith in
      let counted : number ≡ 0 + length (take number moments) = omega (arith, length-take number moments) in
      let last = policed-last before middle.0 after octets left stride 0 (take number moments) (take number so_far) number moment answer cell.leaving
      policed.each counted (cell.polices.on middle.0 after middle.1 has) in
      record {
        within = omega arith;
        each = subst (λ (ms : List ℕ). PolicesEach before octets stride 0 ms (take (number + 1) (set so_far number answer)) after later)
            (sym (take_more moments number other below))
            (subst (λ (all_answers : List UpcAnswer). PolicesEach before octets stride 0 (take number moments ++ moment ∷ []) all_answers after later)
            (sym (take_more_set so_far number answer within))
            (subst (PolicesEach before octets stride 0 (take number moments ++ moment ∷ []) (take number so_far ++ answer ∷ []) after)
            (sym cell.written) last));
        sized = length-set so_far number answer ∙ sized;
        rest = drop-set-lt (number + 1) so_far number answer next ∙ drop_more_same so_far answers number policed.rest;
      };
}

-- A cell that is refused changes neither the core nor the buffer.
pub first-kept : (old core new : CoreView) (octets left later : List ℕ) (stride : ℕ) (moments : List ℕ) (answers so_far : List UpcAnswer) (number : ℕ)
    → new ≡ core → later ≡ left → PolicesFirst old core octets left stride moments answers so_far number
    → PolicesFirst old new octets later stride moments answers so_far number
first-kept old core new octets left later stride moments answers so_far number same kept first =
    subst (λ (c : CoreView). PolicesFirst old c octets later stride moments answers so_far number) (sym same)
    (subst (λ (xs : List ℕ). PolicesFirst old core octets xs stride moments answers so_far number) (sym kept) first)

pub refuses-next : (core new : CoreView) (left later : List ℕ) (stride : ℕ) (moments : List ℕ) (number other : ℕ) (fault : UpcFault)
    → new ≡ core → later ≡ left → number < length moments → RefusesOn core (cell_in left stride number) (get_or moments number other) fault
    → RefusesNext new later stride moments number fault
refuses-next core new left later stride moments number other fault same kept below refused = record {
  moment = get_or moments number other;
  came = slice_get-get_or moments number other below;
  refused = subst (λ (c : CoreView). RefusesOn c (cell_in later stride number) (get_or moments number other) fault) (sym same)
      (subst (λ (xs : List ℕ). RefusesOn core (cell_in xs stride number) (get_or moments number other) fault) (sym kept) refused);
}

-- The part of a list from this place on for 52 elements, where both ends are cut off at the end of the list.
module _ (octets : List ℕ) (place start end : ℕ) (begins : start ≡ min place (length octets)) (ends : end ≡ min (place + 52) (length octets)) where
  pub part-is : take (end - start) (drop start octets) ≡ take 52 (drop place octets)
  part-is =
      let rest : drop start octets ≡ drop place octets = ap (λ (n : ℕ). drop n octets) begins ∙ drop_min place octets in
      let many : end - start ≡ min 52 (length (drop place octets)) = omega (arith, length-drop place octets, begins, ends) in
      ap (take (end - start)) rest ∙ ap (λ (n : ℕ). take n (drop place octets)) many ∙ take_min 52 (drop place octets)

  -- With others in their place.
  pub part-left : (leaving : List ℕ) → length (take 52 (drop place octets)) ≡ 52
      → take start octets ++ (leaving ++ drop (end - start) (drop start octets)) ≡ take place octets ++ leaving ++ drop (place + 52) octets
  part-left leaving sized =
      let whole : place + 52 ≤ length octets = omega (arith, length-take 52 (drop place octets), length-drop place octets, sized) in
      let here : start ≡ place = omega (arith, begins, whole) in
      let many : end - start ≡ 52 = omega (arith, begins, ends, whole) in
      ap (λ (n : ℕ). take n octets ++ (leaving ++ drop (end - start) (drop n octets))) here
      ∙ ap (λ (n : ℕ). take place octets ++ (leaving ++ drop n (drop place octets))) many
      ∙ ap (λ (xs : List ℕ). take place octets ++ (leaving ++ xs)) (drop-drop 52 place octets)
      ∙ sym (append_assoc (take place octets) leaving (drop (place + 52) octets))

-- What was in a part is there again.
pub part-kept : (octets part : List ℕ) (start many : ℕ) → part ≡ take many (drop start octets)
    → take start octets ++ (part ++ drop many (drop start octets)) ≡ octets
part-kept octets part start many same =
    ap (λ (xs : List ℕ). take start octets ++ (xs ++ drop many (drop start octets))) same
    ∙ ap (λ (xs : List ℕ). take start octets ++ xs) (take-append-drop many (drop start octets))
    ∙ take-append-drop start octets

-- The cell with this number, which is the part of the buffer from `start` to `end`.
module _ (octets : List ℕ) (stride number start end : ℕ) (begins : start ≡ min (number * stride) (length octets))
    (ends : end ≡ min (number * stride + 52) (length octets)) where
  pub number-policed : (result : Result UpcAnswer UpcFault) (old new : CoreView) (moment : ℕ) (leaving : List ℕ)
      → IfOk result (λ answer. PolicesOn old new (take (end - start) (drop start octets)) moment answer leaving)
      → IfOk result (PolicesNumber old new octets (take start octets ++ (leaving ++ drop (end - start) (drop start octets))) stride number moment)
  number-policed result old new moment leaving = IfOk-weaker result
      (λ answer. PolicesOn old new (take (end - start) (drop start octets)) moment answer leaving)
      (PolicesNumber old new octets (take start octets ++ (leaving ++ drop (end - start) (drop start octets))) stride number moment)
      (λ answer policed. let part = part-is octets (number * stride) start end begins ends in record {
        leaving = leaving;
        polices = subst (λ (xs : List ℕ). PolicesOn old new xs moment answer leaving) part policed;
        written = part-left octets (number * stride) start end begins ends leaving (ap length (sym part) ∙ policed.sized);
      })

  pub number-refused : (result : Result UpcAnswer UpcFault) (core : CoreView) (moment : ℕ)
      → IfErr result (RefusesOn core (take (end - start) (drop start octets)) moment) → IfErr result (RefusesOn core (cell_in octets stride number) moment)
  number-refused result core moment =
      subst (λ (xs : List ℕ). IfErr result (RefusesOn core xs moment)) (part-is octets (number * stride) start end begins ends)

  pub faulty-so : (fault : UpcFault)
      → (IsCellFault (take (end - start) (drop start octets)) fault ⊎ ((length (take (end - start) (drop start octets)) ≡ 52) × (fault ≡ card_missing)))
      → IsCellFault (cell_in octets stride number) fault ⊎ ((length (cell_in octets stride number) ≡ 52) × (fault ≡ card_missing))
  faulty-so fault = subst (λ (xs : List ℕ). IsCellFault xs fault ⊎ ((length xs ≡ 52) × (fault ≡ card_missing)))
      (part-is octets (number * stride) start end begins ends)

-- On the card.
pub next-refused : {T : Type 0} (result : Result T UpcFault) (core : CoreView) (card : UpcCard) (octets : List ℕ) (stride : ℕ) (moments : List ℕ) (number : ℕ)
    → card_in card ≡ Some core → IfErr result (RefusesNext core octets stride moments number) → IfErr result (IsNextRefused card octets stride moments number)
next-refused result core card octets stride moments number has = IfErr-weaker result (RefusesNext core octets stride moments number)
    (IsNextRefused card octets stride moments number)
    (λ fault next. record { moment = next.moment; came = next.came; refused = next.refused.on card card has has })

-- Without a card the first cell is refused.
pub first-without : (card : UpcCard) (octets : List ℕ) (stride : ℕ) (moments : List ℕ) (fault : UpcFault) → card_in card ≡ None → 0 < length moments
    → (IsCellFault (cell_in octets stride 0) fault ⊎ ((length (cell_in octets stride 0) ≡ 52) × (fault ≡ card_missing)))
    → IsNextRefused card octets stride moments 0 fault
first-without card octets stride moments fault none some found = record {
  moment = get_or moments 0 0;
  came = slice_get-get_or moments 0 0 some;
  refused = without-card card card (cell_in octets stride 0) (get_or moments 0 0) fault none found;
}
