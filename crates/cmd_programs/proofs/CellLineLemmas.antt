-- The answer to a line of digits alone.
use Rattle.std.proofs.Common.{◌≡◌, ℕ, ◌<◌, ◌==◌, Bool, false, List, [], ◌∷◌, Option, Result, Ok, Err, length, get_or, sym, subst, arith, refl, eq-eqb}
use Rattle.std.specs.Bool.{MatchBool}
use Rattle.std.specs.Option.{MatchOption}
use Rattle.std.specs.Result.{OnOk}
use Rattle.bpf_code.specs.declared.instr.Instr.{Instr}
use Rattle.text_io.specs.Devices.{Adds}
use Rattle.text_io.specs.Words.{is_silent, words_of}
use Rattle.text_io.proofs.Public.{one-word}
use Rattle.text_words.specs.Hexadecimal.{cell_of_octets}
use Rattle.text_words.specs.CellWord.{IsCellWord}
use Rattle.text_words.specs.FaultLines.{bad_hex, wrong_length}
use Rattle.text_words.specs.declared.hexadecimal.CellWord.TheVariants.{OfCell}
use Rattle.text_words.proofs.Public.{digits-visible, filled, spelled-length}
use Rattle.text_io.specs.declared.machine.Turn.TheVariants.{GoesOn}
use Rattle.cmd_programs.specs.AfterProgram.{LaterLine}
use Rattle.cmd_programs.specs.CellLines.{CellLine, OctetsLine, cell_texts}

loud : (word : List ℕ) → 0 < length word → (get_or word 0 0 == 35) ≡ false → is_silent (word ∷ []) ≡ false
loud [] some other = absurd (omega arith)
loud (octet ∷ octets) some other = other

module _ (Prints : List Instr → List ℕ → List ℕ → Type 0) (code : List Instr) where
  -- The answer to a word that spells a cell is that of the cell.
  octets_are_cell : (octets cell text : List ℕ) → cell_of_octets octets ≡ cell → length cell ≡ 52 → Prints code cell text → OctetsLine (Prints code) (cell_of_octets octets) text
  octets_are_cell octets cell text same sized printed =
      let P : List ℕ → Type 0 = λ whole. OctetsLine (Prints code) whole text in
      let Q : Bool → Type 0 = λ b. MatchBool b (Prints code cell text) (text ≡ wrong_length (length cell)) in
      subst P (sym same) (subst Q (sym (eq-eqb (length cell) 52 sized)) printed)

  -- So is the answer to a line of that word alone.
  pub digits-answered : (line cell text : List ℕ) → IsCellWord line (OfCell cell) → Prints code cell text → LaterLine (cell_texts Prints) code line text GoesOn
  digits-answered line cell text word printed =
      let octets = word.0 in
      let sized = spelled-length line octets word.1 in
      let some : 0 < length line = let h = filled octets cell word.2 word.3 in omega arith in
      let alone : words_of line ≡ line ∷ [] = one-word line some (λ k below. (digits-visible line octets word.1 k below).0) in
      let asks : is_silent (line ∷ []) ≡ false = loud line some (digits-visible line octets word.1 0 some).1 in
      let Read : Option (List ℕ) → Type 0 = λ read. MatchOption read (text ≡ bad_hex) (λ found. OctetsLine (Prints code) (cell_of_octets found) text) in
      let here : CellLine (Prints code) (line ∷ []) text = subst Read (sym word.1) (octets_are_cell octets cell text word.2 word.3 printed) in
      let Answers : List (List ℕ) → Bool → Type 0 = λ words silent. MatchBool silent ((text ≡ []) × (GoesOn ≡ GoesOn)) (CellLine (Prints code) words text × (GoesOn ≡ GoesOn)) in
      subst (λ words. Answers words (is_silent words)) (sym alone) (subst (Answers (line ∷ [])) (sym asks) (here, refl))

-- If the text added is of one kind, it is of another.
pub adds-onward : {E : Type 0} (r : Result (Unit {0}) E) (IsText IsOther : List ℕ → Type 0) (before after : List ℕ)
    → ((text : List ℕ) → IsText text → IsOther text) → OnOk r (Adds IsText before after) → OnOk r (Adds IsOther before after)
adds-onward (Ok x) IsText IsOther before after onward added = (added.0, added.1, onward added.0 added.2)
adds-onward (Err e) IsText IsOther before after onward added = added
