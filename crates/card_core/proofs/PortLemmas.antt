-- The core's ports and those of the world, before and after a change of one.
use Rattle.std.proofs.Common.{◌≡◌, ◌⊎◌, ℕ, zero, suc, ◌<◌, true, false, Option, Some, None, List, [], ◌∷◌, length, set, refl, sym, ap, subst, ◌∙◌, inl, inr, arith}
use Rattle.std.specs.Prelude.{slice_get, slice_set, option_map}
use Rattle.std.proofs.lemmas.Bool.{cases_eq}
use Rattle.std.proofs.lemmas.List.{map-set, length-set}
use Rattle.std.proofs.lemmas.Option.{slice_get-map}
use Rattle.gen_arena.specs.Slot.{Slot}
use Rattle.bpf_code.specs.declared.instr.Instr.{Instr}
use Rattle.line_record.specs.Directory.{DirectoryView}
use Rattle.line_record.specs.Line.{LineView}
use Rattle.card_core.specs.declared.port.Port.{Port}
use Rattle.card_core.specs.declared.port.Port.TheVariants.{Outside, Entered, Picked}
use Rattle.card_core.specs.declared.port.Came.{Came}
use Rattle.card_core.specs.declared.port.Found.{Found}
use Rattle.card_core.specs.declared.reply.Reply.TheVariants.{NotNow}
use Rattle.card_core.specs.declared.shape.Shape.{Shape}
use Rattle.card_core.specs.World.{World, PortState, outside, entered, picked, with_port}
use Rattle.card_core.specs.Refusals.{enter_refusal, pick_refusal, judge_refusal}
use Rattle.card_core.specs.Agreement.{CoreView, CoreAgrees}
use Rattle.gen_arena.proofs.Public.{slice_get-set_other}
use Rattle.card_core.specs.inner.Ports.{port_state_of, states_of, found_picking, is_idle, came_in, found_in, IsCore}

-- A core with these parts.
abbrev pub core_of : Shape → List (Slot (List Instr)) → DirectoryView → List LineView → List Port → CoreView
core_of shape store directory lines ports = record {
  shape = shape;
  store = store;
  directory = directory;
  lines = lines;
  ports = states_of ports;
}

-- The state of the port in the world.
pub state-at : (ports : List Port) (port : ℕ) → slice_get (states_of ports) port ≡ option_map port_state_of (slice_get ports port)
state-at ports port = slice_get-map port_state_of ports port

-- A port with no cell.
pub idle : (port : Option Port) → is_idle port ≡ true → option_map port_state_of port ≡ Some outside
idle None e = absurd (cc)
idle (Some Outside) e = refl
idle (Some (Entered came)) e = absurd (cc)
idle (Some (Picked found)) e = absurd (cc)

pub not_idle : (port : Option Port) → is_idle port ≡ false → enter_refusal (option_map port_state_of port) ≡ Some NotNow
not_idle None e = refl
not_idle (Some Outside) e = absurd (cc)
not_idle (Some (Entered came)) e = refl
not_idle (Some (Picked found)) e = refl

-- A port with a cell that entered.
pub came : (port : Option Port) (here : Came) → came_in port ≡ Some here → option_map port_state_of port ≡ Some (entered here.cell here.moment)
came None here e = absurd (cc)
came (Some Outside) here e = absurd (cc)
came (Some (Entered other)) here e =
    let same : other ≡ here = cc in
    ap (λ (c : Came). Some (entered c.cell c.moment)) same
came (Some (Picked found)) here e = absurd (cc)

pub not_came : (world : World) (port : Option Port) → came_in port ≡ None → pick_refusal world (option_map port_state_of port) ≡ Some NotNow
not_came world None e = refl
not_came world (Some Outside) e = refl
not_came world (Some (Entered other)) e = absurd (cc)
not_came world (Some (Picked found)) e = refl

-- A port with a picked cell.
pub found_there : (port : Option Port) (here : Found) → found_in port ≡ Some here → option_map port_state_of port ≡ Some (picked (found_picking here))
found_there None here e = absurd (cc)
found_there (Some Outside) here e = absurd (cc)
found_there (Some (Entered other)) here e = absurd (cc)
found_there (Some (Picked other)) here e =
    let same : other ≡ here = cc in
    ap (λ (f : Found). Some (picked (found_picking f))) same

pub not_found : (world : World) (port : Option Port) → found_in port ≡ None → judge_refusal world (option_map port_state_of port) ≡ Some NotNow
not_found world None e = refl
not_found world (Some Outside) e = refl
not_found world (Some (Entered other)) e = refl
not_found world (Some (Picked found)) e = absurd (cc)

-- A change of one port.
pub moved : (ports : List Port) (states : List PortState) (port : ℕ) (next : Port) → states_of ports ≡ states
    → states_of (slice_set ports port next) ≡ slice_set states port (port_state_of next)
moved ports states port next e =
    map-set port_state_of ports port next ∙ ap (λ (s : List PortState). slice_set s port (port_state_of next)) e

pub CoreAgrees-moved : (shape : Shape) (store : List (Slot (List Instr))) (directory : DirectoryView) (lines : List LineView) (ports : List Port) (world : World)
    (port : ℕ) (next : Port) (state : PortState) → port_state_of next ≡ state → CoreAgrees (core_of shape store directory lines ports) world
    → CoreAgrees (core_of shape store directory lines (slice_set ports port next)) (with_port world port state)
CoreAgrees-moved shape store directory lines ports world port next state same agrees = record {
  shape = agrees.shape;
  store = agrees.store;
  seatings = agrees.seatings;
  lines = agrees.lines;
  ports = moved ports world.ports port next agrees.ports ∙ ap (slice_set world.ports port) same;
}

-- Either the port exists and has the new state, or it doesn't exist and nothing changes.
there_or_past : (ports : List Port) (port : ℕ) (next : Port)
    → (slice_get (set ports port next) port ≡ Some next) ⊎ (set ports port next ≡ ports)
there_or_past [] port next = inr refl
there_or_past (first ∷ later) zero next = inl refl
there_or_past (first ∷ later) (suc port) next = elim (there_or_past later port next) [
  | inl there ↦ inl there
  | inr past ↦ inr (ap (λ (list : List Port). first ∷ list) past)
]

-- The lines of picked cells after a change.
pub within-moved : (lines : List LineView) (ports : List Port) (port : ℕ) (next : Port)
    → ((k : ℕ) (found : Found) → found_in (slice_get ports k) ≡ Some found → found.seating.line < length lines)
    → ((found : Found) → found_in (Some next) ≡ Some found → found.seating.line < length lines)
    → (k : ℕ) (found : Found) → found_in (slice_get (slice_set ports port next) k) ≡ Some found → found.seating.line < length lines
within-moved lines ports port next old new k found e = elim (cases_eq k port) [
  | inl same ↦ elim (there_or_past ports port next) [
    | inl there ↦ new found (ap found_in (sym there) ∙ subst (λ (n : ℕ). found_in (slice_get (set ports port next) n) ≡ Some found) same e)
    | inr past ↦ old k found (ap (λ (list : List Port). found_in (slice_get list k)) (sym past) ∙ e)
  ]
  | inr apart ↦ old k found (ap found_in (sym (slice_get-set_other ports port k next apart)) ∙ e)
]

pub IsCore-moved : (old new : DirectoryView) (lines others : List LineView) (ports after : List Port) (port : ℕ) (next : Port)
    → IsCore old lines ports → new.lines ≡ old.lines → length others ≡ length lines → after ≡ slice_set ports port next
    → ((found : Found) → found_in (Some next) ≡ Some found → found.seating.line < length lines)
    → IsCore new others after
IsCore-moved old new lines others ports after port next is same_lines same_length e fits =
    let Within : ℕ → List Port → Type 0 = λ most list.
    (k : ℕ) (found : Found) → found_in (slice_get list k) ≡ Some found → found.seating.line < most in
    record {
      sized = same_lines ∙ is.sized ∙ sym same_length;
      most = omega (arith, same_lines, is.most);
      within = subst (λ (most : ℕ). Within most after) (sym same_length)
          (subst (Within (length lines)) (sym e) (within-moved lines ports port next is.within fits));
    }

-- A port without a picked cell after the change.
pub IsCore-left : (old new : DirectoryView) (lines others : List LineView) (ports after : List Port) (port : ℕ)
    → IsCore old lines ports → new.lines ≡ old.lines → length others ≡ length lines → after ≡ slice_set ports port Outside
    → IsCore new others after
IsCore-left old new lines others ports after port is same_lines same_length e =
    IsCore-moved old new lines others ports after port Outside is same_lines same_length e (λ found there. absurd (cc))

-- A change of one line alone.
pub IsCore-kept : (old new : DirectoryView) (lines after : List LineView) (ports : List Port) (number : ℕ) (next : LineView)
    → IsCore old lines ports → new.lines ≡ old.lines → after ≡ set lines number next → IsCore new after ports
IsCore-kept old new lines after ports number next is same e =
    let long : length after ≡ length lines = ap length e ∙ length-set lines number next in
    record {
      sized = same ∙ is.sized ∙ sym long;
      most = omega (arith, same, is.most);
      within = subst (λ (most : ℕ). (k : ℕ) (found : Found) → found_in (slice_get ports k) ≡ Some found → found.seating.line < most)
          (sym long) is.within;
    }
