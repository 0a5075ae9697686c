-- A new core agrees with the opening world.
use Rattle.std.proofs.Common.{◌≡◌, ◌<◌, ℕ, zero, suc, Bool, true, false, cond, Option, Some, None, List, ◌∷◌, length, replicate, refl, sym, ap, subst, ◌∙◌, arith, ◌≤◌}
use Rattle.std.specs.Prelude.{slice_get, ◌==◌}
use Rattle.gen_arena.specs.declared.id.Id.{Id}
use Rattle.gen_arena.specs.Slot.{Slot, empty_slot, unused_slots, generation_at, generation_or_zero}
use Rattle.gen_arena.specs.Live.{live_value, value_under}
use Rattle.bpf_code.specs.declared.instr.Instr.{Instr}
use Rattle.line_record.specs.Directory.{DirectoryView, IsEmpty}
use Rattle.line_record.specs.Line.{LineView, free_line}
use Rattle.line_record.specs.Tally.{nothing}
use Rattle.card_core.specs.declared.port.Port.{Port}
use Rattle.card_core.specs.declared.port.Port.TheVariants.{Outside}
use Rattle.card_core.specs.declared.shape.Shape.{Shape}
use Rattle.card_core.specs.World.{opening_world, outside, PortState}
use Rattle.card_core.specs.Agreement.{CoreAgrees}
use Rattle.card_core.specs.inner.Ports.{states_of, found_in, IsCore}
use Rattle.card_core.proofs.PortLemmas.{core_of}

module _ {X : Type 0} where
  pub replicated : (n k : ℕ) (x y : X) → slice_get (replicate n x) k ≡ Some y → x ≡ y
  replicated zero k x y e = absurd (cc)
  replicated (suc n) zero x y e = cc
  replicated (suc n) (suc k) x y e = replicated n k x y e

  pub length_replicated : (n : ℕ) (x : X) → length (replicate n x) ≡ n
  length_replicated zero x = refl
  length_replicated (suc n) x = ap suc (length_replicated n x)

states-outside : (n : ℕ) → states_of (replicate n Outside) ≡ replicate n outside
states-outside zero = refl
states-outside (suc n) = ap (λ (later : List PortState). outside ∷ later) (states-outside n)

no-generation : (n k : ℕ) → generation_at {T = List Instr} (replicate n (empty_slot 0)) k ≡ 0
no-generation n k =
    let choice : (o : Option (Slot (List Instr))) → slice_get (replicate n (empty_slot 0)) k ≡ o → generation_or_zero o ≡ 0 = elim [
      | None ↦ λ e. refl
      | Some slot ↦ λ e. ap (λ (s : Slot (List Instr)). s.generation) (sym (replicated n k (empty_slot 0) slot e))
    ] in
    choice (slice_get (replicate n (empty_slot 0)) k) refl

no-value : (n : ℕ) (id : Id) → live_value {T = List Instr} (replicate n (empty_slot 0)) id ≡ None
no-value n id =
    let either : (b : Bool) → cond b (let none : Option (List Instr) = None in none) None ≡ None = elim [ true ↦ refl | false ↦ refl ] in
    let choice : (o : Option (Slot (List Instr))) → slice_get (replicate n (empty_slot 0)) id.slot ≡ o → value_under id.generation o ≡ None = elim [
      | None ↦ λ e. refl
      | Some slot ↦ λ e.
          subst (λ (s : Slot (List Instr)). value_under id.generation (Some s) ≡ None) (replicated n id.slot (empty_slot 0) slot e)
          (either (0 == id.generation))
    ] in
    choice (slice_get (replicate n (empty_slot 0)) id.slot) refl

pub opening-agrees : (shape : Shape) (store : List (Slot (List Instr))) (directory : DirectoryView) (lines : List LineView) (ports : List Port)
    → store ≡ unused_slots shape.programs 0 → IsEmpty directory shape.lines 1
    → lines ≡ replicate shape.lines (free_line shape.journal nothing false) → ports ≡ replicate shape.ports Outside
    → CoreAgrees (core_of shape store directory lines ports) (opening_world shape)
opening-agrees shape store directory lines ports stored empty free idle =
    let line : LineView = free_line shape.journal nothing false in
    let is : (k : ℕ) (l : LineView) → slice_get lines k ≡ Some l → line ≡ l =
    λ k l at. replicated shape.lines k line l (subst (λ (list : List LineView). slice_get list k ≡ Some l) free at) in
    record {
      shape = refl;
      store = record {
        sized = ap length stored ∙ length_replicated shape.programs (empty_slot 0);
        generations = λ slot. ap (λ (slots : List (Slot (List Instr))). generation_at slots slot) stored ∙ no-generation shape.programs slot;
        values = λ id. ap (λ (slots : List (Slot (List Instr))). live_value slots id) stored ∙ no-value shape.programs id;
      };
      seatings = record {
        lines = empty.lines;
        used_up = let next = empty.used in omega (arith, next);
        seatings = empty.empty;
      };
      lines = record {
        sized = ap length free ∙ length_replicated shape.lines line;
        journals = λ k l at. ap (λ (x : LineView). x.journal) (sym (is k l at));
        serving = λ vc connection found. absurd (cc);
        owned = λ k l owner at has.
            let none : None ≡ Some owner = ap (λ (x : LineView). x.owner) (is k l at) ∙ has in
            absurd (cc);
        counts = λ k l at. ap (λ (x : LineView). x.state.counts) (sym (is k l at));
      };
      ports = ap states_of idle ∙ states-outside shape.ports;
    }

pub opening-core : (shape : Shape) (directory : DirectoryView) (lines : List LineView) (ports : List Port)
    → IsEmpty directory shape.lines 1 → lines ≡ replicate shape.lines (free_line shape.journal nothing false)
    → ports ≡ replicate shape.ports Outside → shape.lines ≤ 4096 → IsCore directory lines ports
opening-core shape directory lines ports empty free idle few = record {
  most = omega (arith, empty.lines, few);
  sized = empty.lines ∙ sym (ap length free ∙ length_replicated shape.lines (free_line shape.journal nothing false));
  within = λ port found at.
      let none : (o : Option Port) → slice_get ports port ≡ o → found_in o ≡ Some found → found.seating.line < length lines = elim [
        | None ↦ λ e f. absurd (cc)
        | Some state ↦ λ e f.
            let idle_state : Outside ≡ state = replicated shape.ports port Outside state
            (subst (λ (list : List Port). slice_get list port ≡ Some state) idle e) in
            let is : found_in (Some Outside) ≡ Some found = subst (λ (p : Port). found_in (Some p) ≡ Some found) (sym idle_state) f in
            absurd (cc)
      ] in
      none (slice_get ports port) refl at;
}
