-- Equal flows, and flows with different keys.
use Rattle.std.proofs.Common.{◌≡◌, ◌≢◌, ℕ, ◌+◌, ◌*◌, ◌<◌, ◌/◌, ◌^◌, ◌==◌, ◌⊎◌, Bool, true, false, cond, ap, List, Option, Some, None, inl, inr, refl, sym, ◌∙◌, subst, ap₂, arith}
use Rattle.std.specs.BTreeMap.{is_at}
use Rattle.std.specs.Ordering.{is_eq, nat_cmp}
use Rattle.std.specs.declared.cmp.Ordering.{Ordering}
use Rattle.std.specs.declared.cmp.Ordering.TheVariants.{Less, Equal, Greater}
use Rattle.std.proofs.lemmas.Bool.{and_from, and_parts, eq-eqb, eqb-true, false_from_ne_true, le-ltb}
use Rattle.std.proofs.lemmas.Map.Lookups.{exact_unsigned}
use Rattle.std.proofs.Math.Nat.{mod-lt}
use Rattle.rules_text.specs.DecisionsRead.{rules_decide}
use Rattle.rules_text.specs.RulesRead.{RulesRead}
use Rattle.upc_cell.specs.Connection.{is_same_vc}
use Rattle.upc_cell.specs.Header.{header_number, vci_of}
use Rattle.upc_cell.specs.Side.{vci_at}
use Rattle.upc_cell.specs.declared.side.Side.{Side}
use Rattle.upc_cell.specs.declared.side.Side.TheVariants.{Uni, Nni, UniPaths, NniPaths}
use Rattle.upc_cell.specs.declared.vc.Vc.{Vc}
use Rattle.upc_cell.proofs.Public.{vc_is, vc_itself, vc_same}
use Rattle.cmd_fit.specs.FitText.{flow_key}
use Rattle.cmd_fit.specs.Flows.{cell_value, is_same_flow}
use Rattle.cmd_fit.specs.declared.flow.Flow.{Flow}
use Rattle.cmd_fit.specs.inner.FlowPlaces.{IsSmall}

pub flow_is : (one other : Flow) → one.vc ≡ other.vc → one.value ≡ other.value → one ≡ other
flow_is one other connections values =
    let made : Vc → ℕ → Flow = λ vc value. record { vc = vc; value = value } in
    ap₂ made connections values

pub flow_same : (one other : Flow) → is_same_flow one other ≡ true → one ≡ other
flow_same one other e =
    let parts = and_parts (is_same_vc one.vc other.vc) (one.value == other.value) e in
    flow_is one other (vc_same one.vc other.vc parts.0) (eqb-true one.value other.value parts.1)

pub flow_itself : (flow : Flow) → is_same_flow flow flow ≡ true
flow_itself flow =
    and_from (is_same_vc flow.vc flow.vc) (flow.value == flow.value) (vc_itself flow.vc) (eq-eqb flow.value flow.value refl)

pub flow_differs : (one other : Flow) → one ≢ other → is_same_flow one other ≡ false
flow_differs one other apart = false_from_ne_true (is_same_flow one other) (λ e. apart (flow_same one other e))

-- A channel has 16 bits, and a value 32.

some_channels : 0 < 2 ^ 16
some_channels = omega arith

identifier_fits : (cell : List ℕ) → vci_of cell < 2 ^ 16
identifier_fits cell = mod-lt (header_number cell / 2 ^ 4) some_channels

pub channel_fits : (side : Side) (cell : List ℕ) → vci_at side cell < 2 ^ 16
channel_fits Uni cell = identifier_fits cell
channel_fits Nni cell = identifier_fits cell
channel_fits UniPaths cell = some_channels
channel_fits NniPaths cell = some_channels

some_values : 0 < 2 ^ 32
some_values = omega arith

pub value_fits : (rules : Option RulesRead) (cell : List ℕ) → cell_value rules cell < 2 ^ 32
unfolding cell_value
value_fits None cell = some_values
value_fits (Some rules) cell = mod-lt (rules_decide rules cell).value some_values

-- Two numbers in two places.
places-apart : (a b x y : ℕ) → x < 4294967296 → y < 4294967296 → 4294967296 * a + x ≡ 4294967296 * b + y → (a ≡ b) × (x ≡ y)
places-apart a b x y small also same = (omega (arith, small, also, same), omega (arith, small, also, same))

halves-apart : (a b x y : ℕ) → x < 65536 → y < 65536 → 65536 * a + x ≡ 65536 * b + y → (a ≡ b) × (x ≡ y)
halves-apart a b x y small also same = (omega (arith, small, also, same), omega (arith, small, also, same))

pub keys-apart : (one other : Flow) → IsSmall one → IsSmall other → one ≢ other → flow_key one ≢ flow_key other
keys-apart one other small also apart same =
    let parts = places-apart (65536 * one.vc.vpi + one.vc.vci) (65536 * other.vc.vpi + other.vc.vci) one.value other.value small.1 also.1 same in
    let connection = halves-apart one.vc.vpi other.vc.vpi one.vc.vci other.vc.vci small.0 also.0 parts.0 in
    apart (flow_is one other (vc_is one.vc other.vc connection.0 connection.1) parts.1)

-- Two flows are the same, or not.
pub flow_cases : (one other : Flow) → (one ≡ other) ⊎ (one ≢ other)
flow_cases one other =
    let choice : (b : Bool) → is_same_flow one other ≡ b → (one ≡ other) ⊎ (one ≢ other) = elim [
      | true ↦ λ e. inl (flow_same one other e)
      | false ↦ λ e. inr (λ same.
          let itself : is_same_flow one one ≡ false = subst (λ (v : Flow). is_same_flow one v ≡ false) (sym same) e in
          let no : true ≡ false = sym (flow_itself one) ∙ itself in
          cc)
    ] in
    choice (is_same_flow one other) refl

-- Numbers in order.

pub cmp-itself : (x : ℕ) → nat_cmp x x ≡ Equal
cmp-itself x =
    ap (λ b. cond b Less (cond (x == x) Equal Greater)) (le-ltb x x (omega arith)) ∙ ap (λ b. cond b Equal Greater) (eq-eqb x x refl)

pub cmp-apart : (x y : ℕ) → x ≢ y → is_eq (nat_cmp x y) ≡ false
cmp-apart x y apart =
    let choice : (r : Ordering) → nat_cmp x y ≡ r → is_eq r ≡ false = elim [
      | Less ↦ λ e. refl
      | Equal ↦ λ e. absurd (apart (exact_unsigned x y e))
      | Greater ↦ λ e. refl
    ] in
    choice (nat_cmp x y) refl

-- A key is found at itself, and at no other.

pub key-itself : (flow : Flow) → is_at (nat_cmp (flow_key flow)) (flow_key flow) ≡ true
key-itself flow = ap is_eq (cmp-itself (flow_key flow))

pub key-apart : (one other : Flow) → flow_key one ≢ flow_key other → is_at (nat_cmp (flow_key one)) (flow_key other) ≡ false
key-apart one other apart = cmp-apart (flow_key one) (flow_key other) apart
