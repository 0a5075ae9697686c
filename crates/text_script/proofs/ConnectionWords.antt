-- The connection of two words.
use Rattle.std.proofs.Common.{◌≡◌, ℕ, ◌%◌, ◌≤◌, List, Some, ap, sym, ◌∙◌, arith}
use Rattle.std.specs.Option.{option_and_then}
use Rattle.std.specs.Prelude.{option_map}
use Rattle.upc_cell.proofs.Public.{vc_is}
use Rattle.upc_cell.specs.Side.{last_vpi}
use Rattle.upc_cell.specs.declared.side.Side.{Side}
use Rattle.upc_cell.specs.declared.vc.Vc.{Vc}
use Rattle.text_script.specs.ScriptWords.{channel_named, connection_of, number_up_to, vc_named}

small : (n : ℕ) → n ≤ 4095 → n % 4096 ≡ n
small n within = omega arith

pub connection_is : (side : Side) (path channel : List ℕ) (vpi vci : ℕ) (vc : Vc)
    → number_up_to (last_vpi side) path ≡ Some vpi → channel_named side channel ≡ Some vci
    → vc.vpi ≡ vpi → vc.vci ≡ vci → Some vc ≡ vc_named side path channel
connection_is side path channel vpi vci vc paths channels one other =
    let within : vpi ≤ 4095 = omega (arith, vc.of_an_interface) in
    let same : vc ≡ connection_of vpi vci = vc_is vc (connection_of vpi vci) (one ∙ sym (small vpi within)) other in
    ap (λ v. Some v) same
    ∙ sym (ap (λ o. option_and_then (λ first. option_map (connection_of first) (channel_named side channel)) o) paths
    ∙ ap (λ o. option_map (connection_of vpi) o) channels)
