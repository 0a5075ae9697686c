-- The connections that a card lists one after another are those of the table, in its order.
use Rattle.std.proofs.Common.{◌≡◌, ℕ, zero, suc, ◌+◌, ◌-◌, ◌*◌, ◌/◌, ◌%◌, ◌^◌, ◌≤◌, ◌<◌, true, false, [], ◌++◌, Option, Some, None, refl, sym, ap, ◌∙◌, arith, append-nil}
use Rattle.std.proofs.lemmas.Bool.Decides.{nat_tests}
use Rattle.std.specs.Option.{IsSome}
use Rattle.card_core.specs.ConnectionState.{IsLastVc, IsNextVc, is_after, is_before}
use Rattle.card_core.specs.World.{Connection, World, connection_in}
use Rattle.upc_cell.proofs.Public.{vc_is}
use Rattle.upc_cell.specs.declared.vc.Vc.{Vc}
use Rattle.cmd_setups.specs.ConnectionCounts.{counts_below, counts_if_any, connection_counts, vc_numbered}
use Rattle.cmd_setups.specs.OrderNumber.{order_number}

-- The smallest number that comes after a connection.
abbrev pub number_after : Option Vc → ℕ
number_after None = 0
number_after (Some vc) = suc (order_number vc)

-- A connection is that of its number.
pub numbered_is : (vc : Vc) → vc.vci < 65536 → vc_numbered (order_number vc) ≡ vc
numbered_is vc small =
    let most : vc.vpi ≤ 4095 = vc.of_an_interface in
    vc_is (vc_numbered (order_number vc)) vc (omega (arith, small, most)) (omega (arith, small, most))

number_is : (number : ℕ) → number < 2 ^ 28 → order_number (vc_numbered number) ≡ number
number_is number small = omega (arith, small)

numbered_before : (number : ℕ) (vc : Vc) → number < 2 ^ 28 → vc.vci < 65536 → number < order_number vc → is_before (vc_numbered number) vc ≡ true
numbered_before number vc small channel less =
    let q : ℕ = number / 65536 % 4096 in
    let r : ℕ = number % 65536 in
    let is : 65536 * q + r ≡ number = number_is number small in
    let low : r < 65536 = omega arith in
    grind (arith, nat_tests, is, low, channel, less)

numbered_after : (number : ℕ) (vc : Vc) → number < 2 ^ 28 → vc.vci < 65536 → order_number vc < number → is_before vc (vc_numbered number) ≡ true
numbered_after number vc small channel less =
    let q : ℕ = number / 65536 % 4096 in
    let r : ℕ = number % 65536 in
    let is : 65536 * q + r ≡ number = number_is number small in
    let low : r < 65536 = omega arith in
    grind (arith, nat_tests, is, low, channel, less)

-- The channel of a connection that is listed is a number of 16 bits.
abbrev pub IsSmall : Option Vc → Type 0
IsSmall None = Unit {0}
IsSmall (Some vc) = vc.vci < 65536

is_after_numbered : (earlier : Option Vc) (number : ℕ) → IsSmall earlier → number < 2 ^ 28 → number_after earlier ≤ number → is_after earlier (vc_numbered number) ≡ true
is_after_numbered None number small bound less = refl
is_after_numbered (Some vc) number small bound less = numbered_after number vc bound small (omega (arith, less))

-- No line for numbers without a connection.
no_lines : (world : World) (from count : ℕ) → ((number : ℕ) → from ≤ number → number < from + count → connection_in world.connections (vc_numbered number) ≡ None)
    → counts_below world (from + count) ≡ counts_below world from
unfolding counts_below
no_lines world from zero none = let same : from + 0 ≡ from = omega arith in ap (counts_below world) same
no_lines world from (suc count) none =
    let last : connection_in world.connections (vc_numbered (from + count)) ≡ None = none (from + count) (omega arith) (omega arith) in
    let rest = no_lines world from count (λ number more less. none number more (omega (arith, less))) in
    let next : from + suc count ≡ suc (from + count) = omega arith in
    ap (counts_below world) next
    ∙ ap (λ (found : Option Connection). counts_below world (from + count) ++ counts_if_any world (vc_numbered (from + count)) found) last
    ∙ append-nil (counts_below world (from + count)) ∙ rest

-- A connection that isn't some one isn't there.
none_of : (found : Option Connection) → (IsSome found → ⊥) → found ≡ None
none_of None never = refl
none_of (Some connection) never = absurd (never refl)

-- No number is below 0.
pub no_numbers : (world : World) → counts_below world 0 ≡ []
unfolding counts_below
no_numbers world = refl

-- The line of the next connection comes next.
pub next_line : (world : World) (earlier : Option Vc) (next : Vc) → IsNextVc world earlier next → IsSmall earlier → next.vci < 65536 → order_number next < 2 ^ 28
    → number_after earlier ≤ order_number next
    → counts_below world (suc (order_number next)) ≡ counts_below world (number_after earlier) ++ connection_counts world next
unfolding counts_below
next_line world earlier next is small channel bound more =
    let from = number_after earlier in
    let count : ℕ = order_number next - from in
    let all : from + count ≡ order_number next = omega (arith, more) in
    let none = no_lines world from count (λ number least less.
    none_of (connection_in world.connections (vc_numbered number)) (λ some.
    let less' : number < order_number next = omega (arith, less, all) in
    let low : number < 2 ^ 28 = omega (arith, less', bound) in
    let before : is_before (vc_numbered number) next ≡ true = numbered_before number next low channel less' in
    let not : is_before (vc_numbered number) next ≡ false = is.least (vc_numbered number) some (is_after_numbered earlier number small low least) in
    let no : true ≡ false = sym before ∙ not in cc)) in
    ap (λ xs. xs ++ connection_counts world (vc_numbered (order_number next))) (ap (counts_below world) (sym all) ∙ none)
    ∙ ap (λ (vc : Vc). counts_below world from ++ connection_counts world vc) (numbered_is next channel)

-- It comes after the earlier one.
pub next_is_after : (world : World) (earlier : Option Vc) (next : Vc) → IsNextVc world earlier next → IsSmall earlier → next.vci < 65536
    → number_after earlier ≤ order_number next
next_is_after world None next is small channel = omega arith
next_is_after world (Some vc) next is small channel =
    let after : is_before vc next ≡ true = is.after in grind (arith, nat_tests, after, small, channel)

-- After the last connection there is no line.
pub last_line : (world : World) (earlier : Option Vc) → IsLastVc world earlier → IsSmall earlier → number_after earlier ≤ 2 ^ 28
    → counts_below world (2 ^ 28) ≡ counts_below world (number_after earlier)
last_line world earlier is small bound =
    let from = number_after earlier in
    let count : ℕ = 2 ^ 28 - from in
    let all : from + count ≡ 2 ^ 28 = omega (arith, bound) in
    ap (counts_below world) (sym all)
    ∙ no_lines world from count (λ number least less.
    none_of (connection_in world.connections (vc_numbered number)) (λ some.
    let low : number < 2 ^ 28 = omega (arith, less, all) in
    let no : true ≡ false = sym (is_after_numbered earlier number small low least) ∙ is (vc_numbered number) some in cc))
