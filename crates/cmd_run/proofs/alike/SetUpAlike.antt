-- Lines that set up a card lead to cards that are alike.
use Rattle.std.proofs.Common.{◌≡◌, ℕ, ◌+◌, ◌≤◌, ◌<◌, List, [], ◌∷◌, Some, None, false, length, nat_le, nat_lt, sym, ap, subst, arith}
use Rattle.std.proofs.lemmas.Bool.{leb-false, or_parts}
use Rattle.text_io.specs.Lines.{Line, line_content}
use Rattle.text_io.specs.Limits.{is_over, most_input_lines, most_line_octets}
use Rattle.text_io.specs.Printing.{EndsAt, Rules}
use Rattle.cmd_run.specs.RunText.{Card, RunWorld, run_rules}
use Rattle.cmd_run.proofs.alike.LinesAlike.{CardsAlike}
use Rattle.cmd_run.proofs.alike.SameConnections.{HaveSame, same-itself}
use Rattle.cmd_run.proofs.alike.ViewsAlike.{unconnected}
use Rattle.cmd_run.proofs.one_script.OneScript.{AreAlike, AreCardsAlike, run-alike}
use Rattle.cmd_run.proofs.one_script.Seen.{Seen, seen}

-- A line within the limits has fewer than the maximum number of lines before it.
within : (met : ℕ) (line : Line) → is_over met line ≡ false → met < most_input_lines
within met line e = leb-false most_input_lines met (or_parts (nat_le most_input_lines met) (nat_lt most_line_octets (length line.octets)) e).0

-- Lines that end nowhere before the last one are at most as many as an input may have.
pub lines-few : {World : Type 0} (rules : Rules World) (lines : List Line) (met : ℕ) (world last : World) (text : List ℕ) → met ≤ most_input_lines
    → EndsAt rules met world lines text last → met + length lines ≤ most_input_lines
lines-few rules [] met world last text most ends = omega (arith, most)
lines-few rules (line ∷ lines) met world last text most ends =
    let few = within met line ends.0 in
    let next : met + 1 ≤ most_input_lines = omega (arith, few) in
    let rest = lines-few rules lines (met + 1) ends.1.2 last ends.1.1 next ends.1.5 in
    omega (arith, rest)

-- Both cards were reached after the same number of lines, which an input may have.
pub record SetUpAlike (one other : Card) : Type 0 where
  pub met : ℕ
  pub most : met ≤ most_input_lines
  pub cards : CardsAlike met met one other

cards-alike : (met : ℕ) (one other : Card) → AreCardsAlike met one other → CardsAlike met met one other
cards-alike met one other alike = record {
  first = alike.first;
  second = alike.second;
  views = record {
    rest = ap unconnected alike.same;
    connections = subst (λ (s : Seen). HaveSame (seen one.world).connections s.connections) alike.same (same-itself (seen one.world).connections);
  };
}

abbrev ReachAlike : RunWorld → RunWorld → Type 0
ReachAlike last last' = (met : ℕ) × (met ≤ most_input_lines) × AreAlike met last last'

ends-alike : (lines : List Line) (met : ℕ) (one other last last' : RunWorld) (text text' : List ℕ) → met ≤ most_input_lines → AreAlike met one other
    → EndsAt run_rules met one lines text last → EndsAt run_rules met other lines text' last' → ReachAlike last last'
ends-alike [] met one other last last' text text' most alike p q =
    (met, most, subst (λ (w : RunWorld). AreAlike met w last') (sym p.0) (subst (λ (w : RunWorld). AreAlike met one w) (sym q.0) alike))
ends-alike (line ∷ lines) met one other last last' text text' most alike p q =
    let few = within met line p.0 in
    let next : met + 1 ≤ most_input_lines = omega (arith, few) in
    let same = run-alike.step met one other (line_content line) p.1.0 q.1.0 (Some p.1.2) (Some q.1.2) few alike p.1.4 q.1.4 in
    ends-alike lines (met + 1) p.1.2 q.1.2 last last' p.1.1 q.1.1 next same.1 p.1.5 q.1.5

pub set_up-alike : (lines : List Line) (text text' : List ℕ) (one other : Card) → EndsAt run_rules 0 None lines text (Some one)
    → EndsAt run_rules 0 None lines text' (Some other) → SetUpAlike one other
set_up-alike lines text text' one other p q =
    let none : 0 ≤ most_input_lines = omega arith in
    let reached = ends-alike lines 0 None None (Some one) (Some other) text text' none tt p q in
    record { met = reached.0; most = reached.1; cards = cards-alike reached.0 one other reached.2 }
