-- The texts of the answerers of a script's lines are one answer for each line, in order.
use Rattle.std.proofs.Common.{◌≡◌, ℕ, zero, suc, Bool, true, false, List, [], ◌∷◌, ◌++◌, All, length, map, Option, Some, None, refl, ap, sym, subst, ◌∙◌, inl, inr}
use Rattle.std.specs.Prelude.{MatchBool, slice_get, slice_set}
use Rattle.std.specs.List.{AllZip}
use Rattle.std.proofs.lemmas.List.{append-nil, append_assoc, append_cancel_left, length-set}
use Rattle.std.proofs.lemmas.List.Elements.{All-get_or, All-nil, All-push, All-replicate, All-set}
use Rattle.std.proofs.lemmas.Option.{get_or_from_slice_get, slice_get_within}
use Rattle.gen_arena.specs.declared.id.Id.{Id}
use Rattle.line_record.specs.declared.tally.Tally.{Tally}
use Rattle.line_record.specs.Tally.{nothing, total}
use Rattle.upc_cell.specs.Connection.{vc_of}
use Rattle.upc_cell.specs.declared.side.Side.{Side}
use Rattle.text_io.specs.Words.{words_of}
use Rattle.text_script.specs.ScriptCommands.{command_of}
use Rattle.cmd_ports.specs.LineAnswers.{MayAnswerLine}
use Rattle.cmd_ports.specs.ScriptAnswers.{AnswersEach}
use Rattle.text_script.specs.declared.cell_line.CellLine.{CellLine}
use Rattle.text_script.specs.declared.cell_line.CellLine.TheVariants.{Comes, IsFaulty}
use Rattle.text_script.specs.declared.dealing.Answerer.{Answerer}
use Rattle.text_script.specs.declared.cell_line.CellLineFault.{CellLineFault}
use Rattle.text_script.specs.declared.cell_line.CellLineFault.TheVariants.{BadLine, BadHex, WrongLength}
use Rattle.text_script.specs.declared.dealing.Answerer.TheVariants as answerers
use Rattle.text_script.specs.declared.dealing.Answerer.TheVariants.{Port, Desk}
use Rattle.cmd_ports.specs.declared.answered.AnsweredCell.{AnsweredCell}
use Rattle.cmd_ports.specs.inner.Arrivals.{AnswersPort, HasCell}
use Rattle.text_script.specs.CellLine.{IsCellLine}
use Rattle.text_script.specs.Dealing.{fault_dealt, is_cell_line, port_of, Dealt, none_dealt, DealsAll, DealsCell, DealsCellLine, DealsDeskLine, DealsFound, DealsOtherLine}
use Rattle.cmd_ports.specs.inner.DeskTexts.{ObeysEach, MayObeyLine}
use Rattle.cmd_ports.specs.inner.Script.{AnswersLater, OfLines}
use Rattle.text_io.specs.Devices.{Adds}
use Rattle.cmd_ports.specs.inner.InOrder.{AllPrint, IsTextOfAnswerer, PrintsCell, Unprinted, after_answerer, cells_after, first_cell, first_or, without_first}
use Rattle.text_words.specs.FaultLines.{wrong_length}
use Rattle.cmd_ports.specs.inner.Answered.{cell_counts, cells_counts}
use Rattle.cmd_ports.proofs.CountsLemmas.{nothing-plus}
use Rattle.cmd_ports.proofs.PortsLeft.{PortsLeft, ports-begin, ports-end, take-cell}
use Rattle.cmd_ports.proofs.DeskLemmas.{desk-answered}
use Rattle.cmd_ports.proofs.AnsweredLemmas.{fault_text, fault-answered, no-command-answered, stored-answered}

-- An element of a list, after one element was replaced.
get-set : {X : Type 0} (xs : List X) (n : ℕ) (was x : X) → slice_get xs n ≡ Some was → slice_get (slice_set xs n x) n ≡ Some x
get-set [] n was x there = let no : None ≡ Some was = there in cc
get-set (y ∷ ys) zero was x there = refl
get-set (y ∷ ys) (suc n) was x there = get-set ys n was x there

-- The lines of a port grow at their end.
pub record GrowsTo (ports : List (List (List ℕ))) (n : ℕ) (own : List (List ℕ)) : Type 0 where
  pub more : List (List ℕ)
  pub there : slice_get ports n ≡ Some (own ++ more)

set-grows : (ports : List (List (List ℕ))) (m : ℕ) (other : List (List ℕ)) (line : List ℕ) → slice_get ports m ≡ Some other → (n : ℕ) (own : List (List ℕ))
    → slice_get ports n ≡ Some own → GrowsTo (slice_set ports m (other ++ line ∷ [])) n own
set-grows [] m other line is n own there = let no : None ≡ Some own = there in cc
set-grows (p ∷ ports) zero other line is zero own there =
    let same : p ≡ other = cc in let also : p ≡ own = cc in
    record { more = line ∷ []; there = ap (λ (xs : List (List ℕ)). Some (xs ++ line ∷ [])) (sym same ∙ also) }
set-grows (p ∷ ports) zero other line is (suc n) own there = record { more = []; there = there ∙ ap (λ (xs : List (List ℕ)). Some xs) (sym (append-nil own)) }
set-grows (p ∷ ports) (suc m) other line is zero own there = record { more = []; there = there ∙ ap (λ (xs : List (List ℕ)). Some xs) (sym (append-nil own)) }
set-grows (p ∷ ports) (suc m) other line is (suc n) own there =
    let later = set-grows ports m other line is n own there in record { more = later.more; there = later.there }

-- What an assignment adds: answerers, lines of the desk, lengths, and lines of ports.
record Grows (before after : Dealt) : Type 0 where
  order : List Answerer
  order_is : after.order ≡ before.order ++ order
  desk : List (List ℕ)
  desk_is : after.desk ≡ before.desk ++ desk
  lengths : List ℕ
  lengths_are : after.lengths ≡ before.lengths ++ lengths
  ports : (n : ℕ) (own : List (List ℕ)) → slice_get before.arrivals n ≡ Some own → GrowsTo after.arrivals n own

grows-none : (d : Dealt) → Grows d d
grows-none d = record {
  order = [];
  order_is = sym (append-nil d.order);
  desk = [];
  desk_is = sym (append-nil d.desk);
  lengths = [];
  lengths_are = sym (append-nil d.lengths);
  ports = λ n own there. record { more = []; there = there ∙ ap (λ (xs : List (List ℕ)). Some xs) (sym (append-nil own)) };
}

grows-then : (a b c : Dealt) → Grows a b → Grows b c → Grows a c
grows-then a b c one two = record {
  order = one.order ++ two.order;
  order_is = two.order_is ∙ ap (λ (xs : List Answerer). xs ++ two.order) one.order_is ∙ append_assoc a.order one.order two.order;
  desk = one.desk ++ two.desk;
  desk_is = two.desk_is ∙ ap (λ (xs : List (List ℕ)). xs ++ two.desk) one.desk_is ∙ append_assoc a.desk one.desk two.desk;
  lengths = one.lengths ++ two.lengths;
  lengths_are = two.lengths_are ∙ ap (λ (xs : List ℕ). xs ++ two.lengths) one.lengths_are ∙ append_assoc a.lengths one.lengths two.lengths;
  ports = λ n own there.
      let first = one.ports n own there in
      let second = two.ports n (own ++ first.more) first.there in
      record { more = first.more ++ second.more; there = second.there ∙ ap (λ (xs : List (List ℕ)). Some xs) (append_assoc own first.more second.more) };
}

-- One line.
cell-grows : (side : Side) (here line : List ℕ) (a b : Dealt) → DealsCell side here line a b → Grows a b
cell-grows side here line a b deals =
    let n = port_of (vc_of side here) (length a.arrivals) in
    subst (Grows a) (sym deals.dealt) (record {
      order = Port n ∷ [];
      order_is = refl;
      desk = [];
      desk_is = sym (append-nil a.desk);
      lengths = [];
      lengths_are = sym (append-nil a.lengths);
      ports = λ m own there. set-grows a.arrivals n deals.own line deals.there m own there;
    })

fault-grows : (fault : CellLineFault) (a b : Dealt) → b ≡ fault_dealt fault a → Grows a b
fault-grows BadLine a b deals = subst (Grows a) (sym deals) (record {
  order = answerers.BadLine ∷ [];
  order_is = refl;
  desk = [];
  desk_is = sym (append-nil a.desk);
  lengths = [];
  lengths_are = sym (append-nil a.lengths);
  ports = (grows-none a).ports;
})
fault-grows BadHex a b deals = subst (Grows a) (sym deals) (record {
  order = answerers.BadHex ∷ [];
  order_is = refl;
  desk = [];
  desk_is = sym (append-nil a.desk);
  lengths = [];
  lengths_are = sym (append-nil a.lengths);
  ports = (grows-none a).ports;
})
fault-grows (WrongLength count) a b deals = subst (Grows a) (sym deals) (record {
  order = answerers.WrongLength ∷ [];
  order_is = refl;
  desk = [];
  desk_is = sym (append-nil a.desk);
  lengths = count ∷ [];
  lengths_are = refl;
  ports = (grows-none a).ports;
})

found-grows : (side : Side) (line : List ℕ) (found : CellLine) (a b : Dealt) → DealsFound side line found a b → Grows a b
found-grows side line (Comes moment here) a b deals = cell-grows side here line a b deals
found-grows side line (IsFaulty fault) a b deals = fault-grows fault a b deals

desk-grows : (line : List ℕ) (a b : Dealt) → DealsDeskLine line a b → Grows a b
desk-grows line a b deals = subst (Grows a) (sym deals) (record {
  order = Desk ∷ [];
  order_is = refl;
  desk = line ∷ [];
  desk_is = refl;
  lengths = [];
  lengths_are = sym (append-nil a.lengths);
  ports = (grows-none a).ports;
})

line-grows : (side : Side) (line : List ℕ) (is : Bool) (a b : Dealt) → MatchBool is (DealsCellLine side line a b) (DealsOtherLine side line a b) → Grows a b
line-grows side line true a b deals = found-grows side line deals.found a b deals.dealt
line-grows side line false a b (inl deals) = desk-grows line a b deals
line-grows side line false a b (inr deals) = fault-grows BadLine a b deals.dealt

all-grows : (side : Side) (lines : List (List ℕ)) (a b : Dealt) → DealsAll side lines a b → Grows a b
all-grows side [] a b deals = subst (Grows a) (sym deals) (grows-none a)
all-grows side (line ∷ lines) a b (next, deals, more) =
    grows-then a next b (line-grows side line (is_cell_line (words_of line)) a next deals) (all-grows side lines next b more)

-- A line with an error changes no port's lines and no lines of the desk.
fault-arrivals : (fault : CellLineFault) (a b : Dealt) → b ≡ fault_dealt fault a → b.arrivals ≡ a.arrivals
fault-arrivals BadLine a b deals = ap (λ (d : Dealt). d.arrivals) deals
fault-arrivals BadHex a b deals = ap (λ (d : Dealt). d.arrivals) deals
fault-arrivals (WrongLength count) a b deals = ap (λ (d : Dealt). d.arrivals) deals

fault-desk : (fault : CellLineFault) (a b : Dealt) → b ≡ fault_dealt fault a → b.desk ≡ a.desk
fault-desk BadLine a b deals = ap (λ (d : Dealt). d.desk) deals
fault-desk BadHex a b deals = ap (λ (d : Dealt). d.desk) deals
fault-desk (WrongLength count) a b deals = ap (λ (d : Dealt). d.desk) deals

-- The number of ports stays the same.
found-sized : (side : Side) (line : List ℕ) (found : CellLine) (a b : Dealt) → DealsFound side line found a b → length b.arrivals ≡ length a.arrivals
found-sized side line (Comes moment here) a b deals = ap (λ (d : Dealt). length d.arrivals) deals.dealt ∙ length-set a.arrivals _ _
found-sized side line (IsFaulty fault) a b deals = ap length (fault-arrivals fault a b deals)

line-sized : (side : Side) (line : List ℕ) (is : Bool) (a b : Dealt) → MatchBool is (DealsCellLine side line a b) (DealsOtherLine side line a b)
    → length b.arrivals ≡ length a.arrivals
line-sized side line true a b deals = found-sized side line deals.found a b deals.dealt
line-sized side line false a b (inl deals) = ap (λ (d : Dealt). length d.arrivals) deals
line-sized side line false a b (inr deals) = ap length (fault-arrivals BadLine a b deals.dealt)

all-sized : (side : Side) (lines : List (List ℕ)) (a b : Dealt) → DealsAll side lines a b → length b.arrivals ≡ length a.arrivals
all-sized side [] a b deals = ap (λ (d : Dealt). length d.arrivals) deals
all-sized side (line ∷ lines) a b (next, deals, more) =
    all-sized side lines next b more ∙ line-sized side line (is_cell_line (words_of line)) a next deals

none-sized : (ports : ℕ) → length (none_dealt ports).arrivals ≡ ports
none-sized zero = refl
none-sized (suc ports) = ap suc (none-sized ports)

-- Each line of a port has a cell.
abbrev HaveCells : Side → List (List (List ℕ)) → Type 0
HaveCells side ports = All (All (HasCell side)) ports

own-cells : (side : Side) (ports : List (List (List ℕ))) (n : ℕ) (own : List (List ℕ)) → slice_get ports n ≡ Some own → HaveCells side ports → All (HasCell side) own
own-cells side ports n own there have =
    subst (All (HasCell side)) (get_or_from_slice_get ports n own own there) (All-get_or (All (HasCell side)) ports n own (slice_get_within ports n own there) have)

found-cells : (side : Side) (line : List ℕ) (found : CellLine) (a b : Dealt) → IsCellLine (command_of side (words_of line)) found
    → DealsFound side line found a b → HaveCells side a.arrivals → HaveCells side b.arrivals
found-cells side line (Comes moment here) a b brings deals have =
    let n = port_of (vc_of side here) (length a.arrivals) in
    let own = own-cells side a.arrivals n deals.own deals.there have in
    subst (λ (d : Dealt). HaveCells side d.arrivals) (sym deals.dealt)
    (All-set (All (HasCell side)) a.arrivals n (deals.own ++ line ∷ []) (All-push (HasCell side) deals.own line own (moment, here, brings)) have)
found-cells side line (IsFaulty fault) a b brings deals have = subst (HaveCells side) (sym (fault-arrivals fault a b deals)) have

line-cells : (side : Side) (line : List ℕ) (is : Bool) (a b : Dealt) → MatchBool is (DealsCellLine side line a b) (DealsOtherLine side line a b)
    → HaveCells side a.arrivals → HaveCells side b.arrivals
line-cells side line true a b deals have = found-cells side line deals.found a b deals.brings deals.dealt have
line-cells side line false a b (inl deals) have = subst (λ (d : Dealt). HaveCells side d.arrivals) (sym deals) have
line-cells side line false a b (inr deals) have = subst (HaveCells side) (sym (fault-arrivals BadLine a b deals.dealt)) have

all-cells : (side : Side) (lines : List (List ℕ)) (a b : Dealt) → DealsAll side lines a b → HaveCells side a.arrivals → HaveCells side b.arrivals
all-cells side [] a b deals have = subst (λ (d : Dealt). HaveCells side d.arrivals) (sym deals) have
all-cells side (line ∷ lines) a b (next, deals, more) have =
    all-cells side lines next b more (line-cells side line (is_cell_line (words_of line)) a next deals have)

-- What is left of an assignment and of the answers: lines of the ports and of the desk, with their answers, and answerers.
record Left (side : Side) (last now : Dealt) (all : List Id) (rest : Unprinted) (names names' : List Id) (text : List ℕ) : Type 0 where
  ports : PortsLeft side now.arrivals last.arrivals rest.cells
  desk : List (List ℕ)
  desk_is : last.desk ≡ now.desk ++ desk
  prints : ObeysEach side desk names rest.texts names'
  lengths_are : last.lengths ≡ now.lengths ++ rest.lengths
  order : List Answerer
  order_is : last.order ≡ now.order ++ order
  texts_print : AllPrint side all rest order text

-- The next answerer, its text, and the texts of those after it.
record Step (side : Side) (last next : Dealt) (all : List Id) (rest : Unprinted) (answerer : Answerer) (text : List ℕ) : Type 0 where
  here : List ℕ
  later : List ℕ
  cut : text ≡ here ++ later
  one : IsTextOfAnswerer side all rest answerer here
  order : List Answerer
  order_is : last.order ≡ next.order ++ order
  prints : AllPrint side all (after_answerer answerer rest) order later

step-from : (side : Side) (last now next : Dealt) (all : List Id) (rest : Unprinted) (answerer : Answerer) (names names' : List Id) (text : List ℕ)
    → next.order ≡ now.order ++ answerer ∷ [] → Grows next last → Left side last now all rest names names' text → Step side last next all rest answerer text
step-from side last now next all rest answerer names names' text next_is grown left =
    let whole : last.order ≡ now.order ++ (answerer ∷ grown.order) =
    grown.order_is ∙ ap (λ (xs : List Answerer). xs ++ grown.order) next_is ∙ append_assoc now.order (answerer ∷ []) grown.order in
    let same : left.order ≡ answerer ∷ grown.order = append_cancel_left now.order left.order (answerer ∷ grown.order) (sym left.order_is ∙ whole) in
    let prints : AllPrint side all rest (answerer ∷ grown.order) text =
    subst (λ (xs : List Answerer). AllPrint side all rest xs text) same left.texts_print in
    record {
      here = prints.0;
      later = prints.1;
      cut = prints.2;
      one = prints.3;
      order = grown.order;
      order_is = grown.order_is;
      prints = prints.4;
    }

-- The lines after these have their answers, whatever is left of the answers.
abbrev GoesOn : Side → List Id → List (List ℕ) → Dealt → Dealt → List Id → Type 0
GoesOn side all lines next last names' = (rest : Unprinted) (mid : List Id) (later : List ℕ) → Left side last next all rest mid names' later
    → AnswersEach side all lines mid later names' (total (map cells_counts rest.cells))

-- A line with an error has its answer. Its length, if it has one, is the next.
nobody-left : (side : Side) (all : List Id) (rest next_rest : Unprinted) (line : List ℕ) (lines : List (List ℕ)) (now next last : Dealt) (names names' : List Id)
    (text : List ℕ) (answerer : Answerer) (fault : List ℕ) → next_rest ≡ after_answerer answerer rest → next_rest.cells ≡ rest.cells → next_rest.texts ≡ rest.texts
    → last.lengths ≡ next.lengths ++ next_rest.lengths → ((here : List ℕ) → IsTextOfAnswerer side all rest answerer here → here ≡ fault)
    → MayAnswerLine side all (words_of line) names fault names nothing → next.order ≡ now.order ++ answerer ∷ [] → next.arrivals ≡ now.arrivals
    → next.desk ≡ now.desk → Grows next last → Left side last now all rest names names' text → GoesOn side all lines next last names'
    → AnswersEach side all (line ∷ lines) names text names' (total (map cells_counts rest.cells))
nobody-left side all rest next_rest line lines now next last names names' text answerer fault after cells texts lengths stored may next_order next_ports next_desk grown left goes_on =
    let step = step-from side last now next all rest answerer names names' text next_order grown left in
    let answer = subst (λ (t : List ℕ). MayAnswerLine side all (words_of line) names t names nothing) (sym (stored step.here step.one)) may in
    let later = goes_on next_rest names step.later (record {
      ports = subst (λ (ports : List (List (List ℕ))). PortsLeft side ports last.arrivals next_rest.cells) (sym next_ports)
          (subst (PortsLeft side now.arrivals last.arrivals) (sym cells) left.ports);
      desk = left.desk;
      desk_is = left.desk_is ∙ ap (λ (xs : List (List ℕ)). xs ++ left.desk) (sym next_desk);
      prints = subst (λ (ts : List (List ℕ)). ObeysEach side left.desk names ts names') (sym texts) left.prints;
      lengths_are = lengths;
      order = step.order;
      order_is = step.order_is;
      texts_print = subst (λ (r : Unprinted). AllPrint side all r step.order step.later) (sym after) step.prints;
    }) in
    let counts = total (map cells_counts rest.cells) in
    let each = subst (λ (cs : List (List AnsweredCell)). AnswersEach side all lines names step.later names' (total (map cells_counts cs))) cells later in
    (step.here, step.later, names, nothing, counts, step.cut, sym (nothing-plus counts), answer, each)

fault-left : (side : Side) (all : List Id) (rest : Unprinted) (line : List ℕ) (lines : List (List ℕ)) (now next last : Dealt) (names names' : List Id)
    (text : List ℕ) (fault : CellLineFault) → MayAnswerLine side all (words_of line) names (fault_text fault) names nothing → next ≡ fault_dealt fault now
    → Grows next last → Left side last now all rest names names' text → GoesOn side all lines next last names'
    → AnswersEach side all (line ∷ lines) names text names' (total (map cells_counts rest.cells))
fault-left side all rest line lines now next last names names' text BadLine may deals grown left goes_on =
    let lengths = left.lengths_are ∙ ap (λ (xs : List ℕ). xs ++ rest.lengths) (sym (ap (λ (d : Dealt). d.lengths) deals)) in
    nobody-left side all rest rest line lines now next last names names' text answerers.BadLine (fault_text BadLine) refl refl refl lengths (λ here is. is) may
    (ap (λ (d : Dealt). d.order) deals) (fault-arrivals BadLine now next deals) (fault-desk BadLine now next deals) grown left goes_on
fault-left side all rest line lines now next last names names' text BadHex may deals grown left goes_on =
    let lengths = left.lengths_are ∙ ap (λ (xs : List ℕ). xs ++ rest.lengths) (sym (ap (λ (d : Dealt). d.lengths) deals)) in
    nobody-left side all rest rest line lines now next last names names' text answerers.BadHex (fault_text BadHex) refl refl refl lengths (λ here is. is) may
    (ap (λ (d : Dealt). d.order) deals) (fault-arrivals BadHex now next deals) (fault-desk BadHex now next deals) grown left goes_on
fault-left side all rest line lines now next last names names' text (WrongLength count) may deals grown left goes_on =
    let next_lengths : next.lengths ≡ now.lengths ++ count ∷ [] = ap (λ (d : Dealt). d.lengths) deals in
    let whole : last.lengths ≡ now.lengths ++ (count ∷ grown.lengths) =
    grown.lengths_are ∙ ap (λ (xs : List ℕ). xs ++ grown.lengths) next_lengths ∙ append_assoc now.lengths (count ∷ []) grown.lengths in
    let same : rest.lengths ≡ count ∷ grown.lengths = append_cancel_left now.lengths rest.lengths (count ∷ grown.lengths) (sym left.lengths_are ∙ whole) in
    let lengths : last.lengths ≡ next.lengths ++ without_first rest.lengths =
    grown.lengths_are ∙ ap (λ (xs : List ℕ). next.lengths ++ xs) (sym (ap (λ (xs : List ℕ). without_first xs) same)) in
    nobody-left side all rest (after_answerer answerers.WrongLength rest) line lines now next last names names' text answerers.WrongLength (wrong_length count) refl refl refl lengths
    (λ here is. is ∙ ap (λ (xs : List ℕ). wrong_length (first_or 0 xs)) same) may
    (ap (λ (d : Dealt). d.order) deals) (fault-arrivals (WrongLength count) now next deals) (fault-desk (WrongLength count) now next deals) grown left goes_on

-- The line of a cell has its answer, and its counts are those of the stored cell.
cell-left : (side : Side) (all : List Id) (rest : Unprinted) (here line : List ℕ) (lines : List (List ℕ)) (now next last : Dealt) (names names' : List Id)
    (text : List ℕ) → DealsCell side here line now next → Grows next last → Left side last now all rest names names' text → GoesOn side all lines next last names'
    → AnswersEach side all (line ∷ lines) names text names' (total (map cells_counts rest.cells))
cell-left side all rest here line lines now next last names names' text deals grown left goes_on =
    let n = port_of (vc_of side here) (length now.arrivals) in
    let own = deals.own in
    let next_order : next.order ≡ now.order ++ Port n ∷ [] = ap (λ (d : Dealt). d.order) deals.dealt in
    let next_ports : next.arrivals ≡ slice_set now.arrivals n (own ++ line ∷ []) = ap (λ (d : Dealt). d.arrivals) deals.dealt in
    let next_desk : next.desk ≡ now.desk = ap (λ (d : Dealt). d.desk) deals.dealt in
    let next_lengths : next.lengths ≡ now.lengths = ap (λ (d : Dealt). d.lengths) deals.dealt in
    let there : slice_get next.arrivals n ≡ Some (own ++ line ∷ []) =
    ap (λ (ports : List (List (List ℕ))). slice_get ports n) next_ports ∙ get-set now.arrivals n own (own ++ line ∷ []) deals.there in
    let growth = grown.ports n (own ++ line ∷ []) there in
    let taken = take-cell side now.arrivals last.arrivals rest.cells n own growth.more line left.ports deals.there growth.there in
    let step = step-from side last now next all rest (Port n) names names' text next_order grown left in
    let prints : PrintsCell side all (Some taken.one) step.here =
    subst (λ (found : Option AnsweredCell). PrintsCell side all found step.here) (ap first_cell taken.there) step.one in
    let cells = slice_set rest.cells n taken.cells_left in
    let after : cells_after rest.cells n (slice_get rest.cells n) ≡ cells = ap (cells_after rest.cells n) taken.there in
    let later = goes_on (record rest { cells = cells }) names step.later (record {
      ports = subst (λ (ports : List (List (List ℕ))). PortsLeft side ports last.arrivals cells) (sym next_ports) taken.left;
      desk = left.desk;
      desk_is = left.desk_is ∙ ap (λ (xs : List (List ℕ)). xs ++ left.desk) (sym next_desk);
      prints = left.prints;
      lengths_are = left.lengths_are ∙ ap (λ (xs : List ℕ). xs ++ rest.lengths) (sym next_lengths);
      order = step.order;
      order_is = step.order_is;
      texts_print = subst (λ (cs : List (List AnsweredCell)). AllPrint side all (record rest { cells = cs }) step.order step.later) after step.prints;
    }) in (
      step.here,
      step.later,
      names,
      cell_counts taken.one,
      total (map cells_counts cells),
      step.cut,
      taken.counts,
      stored-answered side all names line taken.one step.here taken.stored prints,
      later,
    )

-- A line of the desk: its text is the next of the desk's texts.
record DeskStep (side : Side) (line : List ℕ) (names names' : List Id) (desk : List (List ℕ)) (here : List ℕ) (texts : List (List ℕ)) : Type 0 where
  mid : List Id
  answer : MayObeyLine side (words_of line) names here mid
  prints : ObeysEach side desk mid (without_first texts) names'

desk-step : (side : Side) (line : List ℕ) (names names' : List Id) (desk : List (List ℕ)) (here : List ℕ) (texts : List (List ℕ))
    → ObeysEach side (line ∷ desk) names texts names' → here ≡ first_or [] texts → DeskStep side line names names' desk here texts
desk-step side line names names' desk here [] prints is = absurd prints
desk-step side line names names' desk here (own ∷ texts) (mid, answer, prints) is = record {
  mid = mid;
  answer = subst (λ (t : List ℕ). MayObeyLine side (words_of line) names t mid) (sym is) answer;
  prints = prints;
}

desk-left : (side : Side) (all : List Id) (rest : Unprinted) (line : List ℕ) (lines : List (List ℕ)) (now next last : Dealt) (names names' : List Id)
    (text : List ℕ) → is_cell_line (words_of line) ≡ false → DealsDeskLine line now next → Grows next last → Left side last now all rest names names' text
    → GoesOn side all lines next last names' → AnswersEach side all (line ∷ lines) names text names' (total (map cells_counts rest.cells))
desk-left side all rest line lines now next last names names' text other deals grown left goes_on =
    let next_order : next.order ≡ now.order ++ Desk ∷ [] = ap (λ (d : Dealt). d.order) deals in
    let next_desk : next.desk ≡ now.desk ++ line ∷ [] = ap (λ (d : Dealt). d.desk) deals in
    let next_ports : next.arrivals ≡ now.arrivals = ap (λ (d : Dealt). d.arrivals) deals in
    let next_lengths : next.lengths ≡ now.lengths = ap (λ (d : Dealt). d.lengths) deals in
    let step = step-from side last now next all rest Desk names names' text next_order grown left in
    let whole : last.desk ≡ now.desk ++ (line ∷ grown.desk) =
    grown.desk_is ∙ ap (λ (xs : List (List ℕ)). xs ++ grown.desk) next_desk ∙ append_assoc now.desk (line ∷ []) grown.desk in
    let same : left.desk ≡ line ∷ grown.desk = append_cancel_left now.desk left.desk (line ∷ grown.desk) (sym left.desk_is ∙ whole) in
    let prints = subst (λ (xs : List (List ℕ)). ObeysEach side xs names rest.texts names') same left.prints in
    let desk = desk-step side line names names' grown.desk step.here rest.texts prints step.one in
    let later = goes_on (after_answerer Desk rest) desk.mid step.later (record {
      ports = subst (λ (ports : List (List (List ℕ))). PortsLeft side ports last.arrivals rest.cells) (sym next_ports) left.ports;
      desk = grown.desk;
      desk_is = grown.desk_is;
      prints = desk.prints;
      lengths_are = left.lengths_are ∙ ap (λ (xs : List ℕ). xs ++ rest.lengths) (sym next_lengths);
      order = step.order;
      order_is = step.order_is;
      texts_print = step.prints;
    }) in
    let counts = total (map cells_counts rest.cells) in (
      step.here,
      step.later,
      desk.mid,
      nothing,
      counts,
      step.cut,
      sym (nothing-plus counts),
      desk-answered side all (words_of line) names step.here desk.mid other desk.answer,
      later,
    )

-- Any line has its answer, and the lines after it have theirs.
found-left : (side : Side) (all : List Id) (rest : Unprinted) (line : List ℕ) (lines : List (List ℕ)) (now next last : Dealt) (names names' : List Id)
    (text : List ℕ) → is_cell_line (words_of line) ≡ true → (found : CellLine) → IsCellLine (command_of side (words_of line)) found
    → DealsFound side line found now next → Grows next last → Left side last now all rest names names' text → GoesOn side all lines next last names'
    → AnswersEach side all (line ∷ lines) names text names' (total (map cells_counts rest.cells))
found-left side all rest line lines now next last names names' text cell (Comes moment here) brings deals grown left goes_on =
    cell-left side all rest here line lines now next last names names' text deals grown left goes_on
found-left side all rest line lines now next last names names' text cell (IsFaulty fault) brings deals grown left goes_on =
    fault-left side all rest line lines now next last names names' text fault (fault-answered side all names line fault cell brings) deals grown left goes_on

line-left : (side : Side) (all : List Id) (rest : Unprinted) (line : List ℕ) (lines : List (List ℕ)) (now next last : Dealt) (names names' : List Id)
    (text : List ℕ) (is : Bool) → is_cell_line (words_of line) ≡ is → MatchBool is (DealsCellLine side line now next) (DealsOtherLine side line now next)
    → Grows next last → Left side last now all rest names names' text → GoesOn side all lines next last names'
    → AnswersEach side all (line ∷ lines) names text names' (total (map cells_counts rest.cells))
line-left side all rest line lines now next last names names' text true cell deals grown left goes_on =
    found-left side all rest line lines now next last names names' text cell deals.found deals.brings deals.dealt grown left goes_on
line-left side all rest line lines now next last names names' text false other (inl deals) grown left goes_on =
    desk-left side all rest line lines now next last names names' text other deals grown left goes_on
line-left side all rest line lines now next last names names' text false other (inr deals) grown left goes_on =
    fault-left side all rest line lines now next last names names' text BadLine (no-command-answered side all names line deals.none) deals.dealt grown left goes_on

prints-none : (side : Side) (names names' : List Id) (rest : List (List ℕ)) → ObeysEach side [] names rest names' → names' ≡ names
prints-none side names names' [] prints = prints
prints-none side names names' (text ∷ rest) prints = absurd prints

-- The lines that are left have their answers.
answers-left : (side : Side) (all : List Id) (rest : Unprinted) (lines : List (List ℕ)) (now last : Dealt) (names names' : List Id) (text : List ℕ)
    → DealsAll side lines now last → Left side last now all rest names names' text
    → AnswersEach side all lines names text names' (total (map cells_counts rest.cells))
answers-left side all rest [] now last names names' text deals left =
    let none : [] ≡ left.order = append_cancel_left now.order [] left.order (append-nil now.order ∙ ap (λ (d : Dealt). d.order) (sym deals) ∙ left.order_is) in
    let free : [] ≡ left.desk = append_cancel_left now.desk [] left.desk (append-nil now.desk ∙ ap (λ (d : Dealt). d.desk) (sym deals) ∙ left.desk_is) in (
      subst (λ (xs : List Answerer). AllPrint side all rest xs text) (sym none) left.texts_print,
      prints-none side names names' rest.texts (subst (λ (xs : List (List ℕ)). ObeysEach side xs names rest.texts names') (sym free) left.prints),
      ports-end side last.arrivals rest.cells
          (subst (λ (ports : List (List (List ℕ))). PortsLeft side ports last.arrivals rest.cells) (ap (λ (d : Dealt). d.arrivals) (sym deals)) left.ports),
    )
answers-left side all rest (line ∷ lines) now last names names' text (next, deals, more) left =
    line-left side all rest line lines now next last names names' text (is_cell_line (words_of line)) refl deals (all-grows side lines next last more) left
    (λ later_rest mid later still. answers-left side all later_rest lines next last mid names' later more still)

-- The lines of a script, from the first that was assigned on. Their counts are those of all cells of all ports.
pub all-answered : (side : Side) (all : List Id) (arrivals : List (List AnsweredCell)) (texts : List (List ℕ)) (lines : List (List ℕ)) (ports : ℕ) (last : Dealt)
    (names : List Id) (text : List ℕ) → DealsAll side lines (none_dealt ports) last → AllZip (AnswersPort side) last.arrivals arrivals
    → ObeysEach side last.desk names texts all
    → AllPrint side all (record { cells = arrivals; texts = texts; lengths = last.lengths }) last.order text
    → AnswersEach side all lines names text all (total (map cells_counts arrivals))
all-answered side all arrivals texts lines ports last names text deals answers prints texts_print =
    let cells = all-cells side lines (none_dealt ports) last deals (All-replicate (All (HasCell side)) ports [] (All-nil (HasCell side))) in
    let sized = all-sized side lines (none_dealt ports) last deals ∙ none-sized ports in
    answers-left side all (record { cells = arrivals; texts = texts; lengths = last.lengths }) lines (none_dealt ports) last names all text deals (record {
      ports = ports-begin side ports last.arrivals arrivals sized cells answers;
      desk = last.desk;
      desk_is = refl;
      prints = prints;
      lengths_are = refl;
      order = last.order;
      order_is = refl;
      texts_print = texts_print;
    })

-- The same for what was appended, with the sides and lists as the code has them.
pub later-answered : (side dealing : Side) (octets : List ℕ) (ports : ℕ) (last : Dealt) (order : List Answerer) (arrivals : List (List (List ℕ))) (desk : List (List ℕ))
    (lengths : List ℕ) (rest : Unprinted) (stored stored' : List (List AnsweredCell)) (texts texts' : List (List ℕ)) (names all all' : List Id) (counts : Tally) (old new : List ℕ)
    → dealing ≡ side → last.order ≡ order → last.arrivals ≡ arrivals → last.desk ≡ desk → last.lengths ≡ lengths → stored ≡ stored' → texts ≡ texts' → all ≡ all'
    → rest ≡ record { cells = stored'; texts = texts'; lengths = lengths } → OfLines octets (λ each. DealsAll dealing each (none_dealt ports) last)
    → AllZip (AnswersPort side) arrivals stored → ObeysEach side desk names texts all → Adds (AllPrint dealing all' rest order) old new
    → total (map cells_counts stored) ≡ counts → Adds (λ text. OfLines octets (λ each. AnswersLater side each names text counts)) old new
later-answered side dealing octets ports last order arrivals desk lengths rest stored stored' texts texts' names all all' counts old new same_side same_order same_arrivals same_desk
    same_lengths same_stored same_texts same_all same_rest deals answers prints (text, adds, print) counted =
    let print0 = subst (λ (r : Unprinted). AllPrint dealing all' r order text) same_rest print in
    let print1 = subst (λ (s : Side). AllPrint s all' (record { cells = stored'; texts = texts'; lengths = lengths }) order text) same_side print0 in
    let print2 = subst (λ (xs : List Answerer). AllPrint side all' (record { cells = stored'; texts = texts'; lengths = lengths }) xs text) (sym same_order) print1 in
    let print3 = subst (λ (xs : List (List AnsweredCell)). AllPrint side all' (record { cells = xs; texts = texts'; lengths = lengths }) last.order text) (sym same_stored) print2 in
    let print4 = subst (λ (xs : List (List ℕ)). AllPrint side all' (record { cells = stored; texts = xs; lengths = lengths }) last.order text) (sym same_texts) print3 in
    let print5 = subst (λ (xs : List ℕ). AllPrint side all' (record { cells = stored; texts = texts; lengths = xs }) last.order text) (sym same_lengths) print4 in
    let print6 = subst (λ (ids : List Id). AllPrint side ids (record { cells = stored; texts = texts; lengths = last.lengths }) last.order text) (sym same_all) print5 in (
      text,
      adds,
      λ each are. (
        all,
        subst (λ (t : Tally). AnswersEach side all each names text all t) counted
            (all-answered side all stored texts each ports last names text
            (subst (λ (s : Side). DealsAll s each (none_dealt ports) last) same_side (deals each are))
            (subst (λ (xs : List (List (List ℕ))). AllZip (AnswersPort side) xs stored) (sym same_arrivals) answers)
            (subst (λ (xs : List (List ℕ)). ObeysEach side xs names texts all) (sym same_desk) prints) print6),
      ),
    )
