-- A script's octets are read as lines in exactly one way, and the lines are assigned one after another.
use Rattle.std.proofs.Common.{◌≡◌, ℕ, ◌<◌, Bool, true, false, List, [], ◌∷◌, ◌++◌, length, map, get_or, refl, ap, sym, subst, ◌∙◌, inl, inr}
use Rattle.std.specs.Prelude.{MatchBool, Some, slice_get, slice_set}
use Rattle.std.specs.Option.{option_map}
use Rattle.std.proofs.lemmas.List.{length-map, length-set, map-set}
use Rattle.std.proofs.lemmas.Nat.{mod_below}
use Rattle.std.proofs.lemmas.Option.{slice_get-map, slice_get_read}
use Rattle.text_io.specs.Words.{words_of}
use Rattle.text_script.specs.CommonLine.{IsCommonLine}
use Rattle.text_script.proofs.Public.{common-command, common-words}
use Rattle.text_script.proofs.LineLemmas.{NoneBefore, no_lines, starts_with}
use Rattle.upc_cell.specs.Connection.{vc_of}
use Rattle.upc_cell.specs.declared.side.Side.{Side}
use Rattle.text_script.specs.declared.cell_line.CellLine.{CellLine}
use Rattle.text_script.specs.declared.cell_line.CellLine.TheVariants.{Comes, IsFaulty}
use Rattle.text_script.specs.declared.cell_line.CellLineFault.{CellLineFault}
use Rattle.text_script.specs.declared.cell_line.CellLineFault.TheVariants.{BadLine, BadHex, WrongLength}
use Rattle.text_script.specs.declared.dealing.Answerer.{Answerer}
use Rattle.text_script.specs.declared.dealing.Answerer.TheVariants.{Port}
use Rattle.text_script.specs.Dealing.{AreLinesOf, fault_dealt, is_cell_line, port_of, Dealt, DealsAll, DealsCell, DealsCellLine, DealsFound, DealsLine, DealsOtherLine}

-- The line of a cell was assigned to the port of the cell's connection, after the earlier lines of that port.
pub cell_dealt : (side : Side) (cell line : List ℕ) (order : List Answerer) (desk : List (List ℕ)) (lengths : List ℕ) (V : Type 0) (v : V → List (List ℕ))
    (all : List V) (ports number : ℕ) (own next : V) → ports ≡ length all → 0 < ports → number ≡ port_of (vc_of side cell) ports
    → own ≡ get_or all number own → v next ≡ v own ++ line ∷ []
    → DealsCell side cell line (record { order = order; desk = desk; arrivals = map v all; lengths = lengths })
    (record { order = order ++ Port number ∷ []; desk = desk; arrivals = map v (slice_set all number next); lengths = lengths })
cell_dealt side cell line order desk lengths V v all ports number own next sized some is read grown =
    let below : number < ports = subst (λ n. n < ports) (sym is) (mod_below _ ports some) in
    let same : number ≡ port_of (vc_of side cell) (length (map v all)) =
    is ∙ ap (λ n. port_of (vc_of side cell) n) (sized ∙ sym (length-map all v)) in
    let there : slice_get (map v all) number ≡ Some (v own) =
    slice_get-map v all number ∙ ap (option_map v) (slice_get_read all ports number own sized below read) in
    let D : ℕ → List (List (List ℕ)) → Dealt =
    λ n xs. record { order = order ++ Port n ∷ []; desk = desk; arrivals = xs; lengths = lengths } in
    let put : map v (slice_set all number next) ≡ slice_set (map v all) number (v own ++ line ∷ []) =
    map-set v all number next ∙ ap (slice_set (map v all) number) grown in
    record {
      own = v own;
      there = subst (λ n. slice_get (map v all) n ≡ Some (v own)) same there;
      dealt = ap (D number) put ∙ ap (λ n. D n (slice_set (map v all) n (v own ++ line ∷ []))) same;
    }

-- A line with an error leaves the number of ports unchanged.
fault_keeps : (fault : CellLineFault) (before after : Dealt) → after ≡ fault_dealt fault before → length after.arrivals ≡ length before.arrivals
fault_keeps BadLine before after deals = ap (λ (d : Dealt). length d.arrivals) deals
fault_keeps BadHex before after deals = ap (λ (d : Dealt). length d.arrivals) deals
fault_keeps (WrongLength count) before after deals = ap (λ (d : Dealt). length d.arrivals) deals

-- A cell line leaves the number of ports unchanged.
found_keeps : (side : Side) (line : List ℕ) (found : CellLine) (before after : Dealt) → DealsFound side line found before after
    → length after.arrivals ≡ length before.arrivals
found_keeps side line (Comes moment cell) before after deals =
    ap (λ (d : Dealt). length d.arrivals) deals.dealt ∙ length-set before.arrivals _ _
found_keeps side line (IsFaulty fault) before after deals = fault_keeps fault before after deals

pub cell_line_keeps : (side : Side) (line : List ℕ) (before after : Dealt) → DealsCellLine side line before after
    → length after.arrivals ≡ length before.arrivals
cell_line_keeps side line before after deals = found_keeps side line deals.found before after deals.dealt

-- The first word of a line decides how it is assigned.
pub is_cell_lines : (side : Side) (line : List ℕ) (before after : Dealt) → is_cell_line (words_of line) ≡ true
    → DealsCellLine side line before after → DealsLine side line before after
is_cell_lines side line before after is deals =
    subst (λ b. MatchBool b (DealsCellLine side line before after) (DealsOtherLine side line before after)) (sym is) deals

-- Any line leaves the number of ports unchanged.
keeps_by : (is : Bool) (side : Side) (line : List ℕ) (before after : Dealt)
    → MatchBool is (DealsCellLine side line before after) (DealsOtherLine side line before after) → length after.arrivals ≡ length before.arrivals
keeps_by true side line before after deals = cell_line_keeps side line before after deals
keeps_by false side line before after (inl deals) = ap (λ (d : Dealt). length d.arrivals) deals
keeps_by false side line before after (inr deals) = ap (λ (d : Dealt). length d.arrivals) deals.dealt

pub line_keeps : (side : Side) (line : List ℕ) (before after : Dealt) → DealsLine side line before after
    → length after.arrivals ≡ length before.arrivals
line_keeps side line before after deals = keeps_by (is_cell_line (words_of line)) side line before after deals

-- A line of the common form is a cell line with its cell.
pub common_dealt : (side : Side) (line : List ℕ) (moment : ℕ) (cell : List ℕ) (before after : Dealt) → IsCommonLine line moment cell
    → DealsCell side cell line before after → DealsLine side line before after
common_dealt side line moment cell before after is deals =
    let words = common-words line moment cell is in
    let found = common-command side line moment cell is in
    is_cell_lines side line before after (ap is_cell_line words.2)
    (record { found = Comes moment cell; brings = (found.0, found.1, found.2); dealt = deals })

-- The state of an assignment: these lines are left, and assigning them assigns the whole script.
pub record IsDealing (side : Side) (whole : List (List ℕ)) (start : Dealt) (rest : List ℕ) (now : Dealt) : Type 0 where
  pub left : List (List ℕ)
  pub are : AreLinesOf rest left
  pub goes_on : (after : Dealt) → DealsAll side left now after → DealsAll side whole start after

pub begun : (side : Side) (whole : List (List ℕ)) (start : Dealt) (octets : List ℕ) → AreLinesOf octets whole
    → IsDealing side whole start octets start
begun side whole start octets are = record { left = whole; are = are; goes_on = λ after deals. deals }

pub one_dealt : (side : Side) (whole : List (List ℕ)) (start now next : Dealt) (rest line later : List ℕ)
    → rest ≡ line ++ 10 ∷ later → NoneBefore line rest → IsDealing side whole start rest now → DealsLine side line now next
    → IsDealing side whole start later next
one_dealt side whole start now next rest line later cut none dealing deals =
    let first = starts_with line later rest dealing.left cut none dealing.are in
    let P : List (List ℕ) → Type 0 = λ lines. (after : Dealt) → DealsAll side lines now after → DealsAll side whole start after in
    let goes_on = subst P first.all dealing.goes_on in
    record { left = first.others; are = first.left; goes_on = λ after more. goes_on after (next, deals, more) }

pub all_dealt : (side : Side) (whole : List (List ℕ)) (start now : Dealt) (rest : List ℕ)
    → NoneBefore rest rest → IsDealing side whole start rest now → DealsAll side whole start now
all_dealt side whole start now rest none dealing =
    let P : List (List ℕ) → Type 0 = λ lines. (after : Dealt) → DealsAll side lines now after → DealsAll side whole start after in
    subst P (no_lines rest dealing.left none dealing.are) dealing.goes_on now refl
