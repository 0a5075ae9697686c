-- Each row of a listing.
use Rattle.std.proofs.Common.{◌≡◌, ℕ, ◌+◌, ◌<◌, ◌^◌, Bool, true, false, ◌&&◌, List, [], ◌∷◌, codes, refl, inl, inr}
use Rattle.bpf_asm.specs.Listing.{StaysWithin, first_spelling, label_at, statement_at}
use Rattle.bpf_asm.specs.Numbers.{number_of_word, value_after}
use Rattle.bpf_asm.specs.StatementSpelling.{Part, text, label, spelling_tokens, spellings}
use Rattle.bpf_asm.specs.Tokens.{pieces_of, tokens_of, word_token}
use Rattle.bpf_code.specs.Widths.{FitsFields}
use Rattle.bpf_asm.proofs.listings.Apart.{ReadParts, ReadsPart, is_apart, no_minus, texts_inline}
use Rattle.bpf_code.specs.declared.instr.By.TheVariants.{Imm, X}
use Rattle.bpf_code.specs.declared.instr.Instr.{Instr}
use Rattle.bpf_code.specs.declared.instr.Instr.TheVariants.{LoadAbs, LoadInd, LoadImm, LoadMem, LoadLen, LdxImm, LdxMem, LdxLen, LdxMsh, Store, StoreX, Alu, Neg, Jump, Branch, RetK, RetA, Tax, Txa}
use Rattle.bpf_code.specs.declared.instr.Op.TheVariants.{Add, Sub, Mul, Div, Or, And, Lsh, Rsh, Mod, Xor}
use Rattle.bpf_code.specs.declared.instr.Size.TheVariants.{Word, Half, Octet}
use Rattle.bpf_code.specs.declared.instr.Test.TheVariants.{Eq, Gt, Ge, Set}

-- The parts of a line of a listing.
abbrev pub line_parts : ℕ → Instr → List Part
line_parts place i = label (label_at place) ∷ text (codes ": ") ∷ first_spelling (spellings (statement_at place i))

-- Whether there is some spelling.
abbrev pub is_some_row : List (List Part) → Bool
is_some_row [] = false
is_some_row (row ∷ rows) = true

-- Whether the parts of a row don't run into each other, end no line, begin no comment and have no sign.
abbrev pub is_good : List Part → Bool
is_good parts = is_apart parts && (texts_inline parts && no_minus (spelling_tokens parts))

-- The instruction has a row with this property.
pub row_good : (place : ℕ) (i : Instr) → (is_good (line_parts place i) && is_some_row (spellings (statement_at place i))) ≡ true
unfolding spellings tokens_of pieces_of word_token number_of_word value_after
row_good place (LoadAbs Word k) = refl
row_good place (LoadInd Word k) = refl
row_good place (LoadAbs Half k) = refl
row_good place (LoadInd Half k) = refl
row_good place (LoadAbs Octet k) = refl
row_good place (LoadInd Octet k) = refl
row_good place (LoadImm k) = refl
row_good place (LoadMem k) = refl
row_good place LoadLen = refl
row_good place (LdxImm k) = refl
row_good place (LdxMem k) = refl
row_good place LdxLen = refl
row_good place (LdxMsh k) = refl
row_good place (Store k) = refl
row_good place (StoreX k) = refl
row_good place (Alu Add (Imm k)) = refl
row_good place (Alu Add X) = refl
row_good place (Alu Sub (Imm k)) = refl
row_good place (Alu Sub X) = refl
row_good place (Alu Mul (Imm k)) = refl
row_good place (Alu Mul X) = refl
row_good place (Alu Div (Imm k)) = refl
row_good place (Alu Div X) = refl
row_good place (Alu Or (Imm k)) = refl
row_good place (Alu Or X) = refl
row_good place (Alu And (Imm k)) = refl
row_good place (Alu And X) = refl
row_good place (Alu Lsh (Imm k)) = refl
row_good place (Alu Lsh X) = refl
row_good place (Alu Rsh (Imm k)) = refl
row_good place (Alu Rsh X) = refl
row_good place (Alu Mod (Imm k)) = refl
row_good place (Alu Mod X) = refl
row_good place (Alu Xor (Imm k)) = refl
row_good place (Alu Xor X) = refl
row_good place Neg = refl
row_good place (Jump k) = refl
row_good place (Branch Eq (Imm k) jt jf) = refl
row_good place (Branch Eq X jt jf) = refl
row_good place (Branch Gt (Imm k) jt jf) = refl
row_good place (Branch Gt X jt jf) = refl
row_good place (Branch Ge (Imm k) jt jf) = refl
row_good place (Branch Ge X jt jf) = refl
row_good place (Branch Set (Imm k) jt jf) = refl
row_good place (Branch Set X jt jf) = refl
row_good place (RetK k) = refl
row_good place RetA = refl
row_good place Tax = refl
row_good place Txa = refl

-- The parts of a row read as their tokens.
pub row_reads : (place : ℕ) (i : Instr) → FitsFields i → StaysWithin (2 ^ 64) place i → ((target : ℕ) → target < 2 ^ 64 → ReadsPart (label (label_at target))) → ReadsPart (label (label_at place)) → ReadParts (line_parts place i)
unfolding spellings
row_reads place (LoadAbs Word k) w s t l = (l, (tt, (tt, (tt, (w.k, (tt, tt))))))
row_reads place (LoadInd Word k) w s t l = (l, (tt, (tt, (tt, (w.k, (tt, tt))))))
row_reads place (LoadAbs Half k) w s t l = (l, (tt, (tt, (tt, (w.k, (tt, tt))))))
row_reads place (LoadInd Half k) w s t l = (l, (tt, (tt, (tt, (w.k, (tt, tt))))))
row_reads place (LoadAbs Octet k) w s t l = (l, (tt, (tt, (tt, (w.k, (tt, tt))))))
row_reads place (LoadInd Octet k) w s t l = (l, (tt, (tt, (tt, (w.k, (tt, tt))))))
row_reads place (LoadImm k) w s t l = (l, (tt, (tt, (w.k, tt))))
row_reads place (LoadMem k) w s t l = (l, (tt, (tt, (w.k, (tt, tt)))))
row_reads place LoadLen w s t l = (l, (tt, (tt, tt)))
row_reads place (LdxImm k) w s t l = (l, (tt, (tt, (w.k, tt))))
row_reads place (LdxMem k) w s t l = (l, (tt, (tt, (w.k, (tt, tt)))))
row_reads place LdxLen w s t l = (l, (tt, (tt, tt)))
row_reads place (LdxMsh k) w s t l = (l, (tt, (tt, (w.k, (tt, tt)))))
row_reads place (Store k) w s t l = (l, (tt, (tt, (w.k, (tt, tt)))))
row_reads place (StoreX k) w s t l = (l, (tt, (tt, (w.k, (tt, tt)))))
row_reads place (Alu Add (Imm k)) w s t l = (l, (tt, (tt, (tt, (tt, (w.k, tt))))))
row_reads place (Alu Add X) w s t l = (l, (tt, (tt, (tt, (tt, tt)))))
row_reads place (Alu Sub (Imm k)) w s t l = (l, (tt, (tt, (tt, (tt, (w.k, tt))))))
row_reads place (Alu Sub X) w s t l = (l, (tt, (tt, (tt, (tt, tt)))))
row_reads place (Alu Mul (Imm k)) w s t l = (l, (tt, (tt, (tt, (tt, (w.k, tt))))))
row_reads place (Alu Mul X) w s t l = (l, (tt, (tt, (tt, (tt, tt)))))
row_reads place (Alu Div (Imm k)) w s t l = (l, (tt, (tt, (tt, (tt, (w.k, tt))))))
row_reads place (Alu Div X) w s t l = (l, (tt, (tt, (tt, (tt, tt)))))
row_reads place (Alu Or (Imm k)) w s t l = (l, (tt, (tt, (tt, (tt, (w.k, tt))))))
row_reads place (Alu Or X) w s t l = (l, (tt, (tt, (tt, (tt, tt)))))
row_reads place (Alu And (Imm k)) w s t l = (l, (tt, (tt, (tt, (tt, (w.k, tt))))))
row_reads place (Alu And X) w s t l = (l, (tt, (tt, (tt, (tt, tt)))))
row_reads place (Alu Lsh (Imm k)) w s t l = (l, (tt, (tt, (tt, (tt, (w.k, tt))))))
row_reads place (Alu Lsh X) w s t l = (l, (tt, (tt, (tt, (tt, tt)))))
row_reads place (Alu Rsh (Imm k)) w s t l = (l, (tt, (tt, (tt, (tt, (w.k, tt))))))
row_reads place (Alu Rsh X) w s t l = (l, (tt, (tt, (tt, (tt, tt)))))
row_reads place (Alu Mod (Imm k)) w s t l = (l, (tt, (tt, (tt, (tt, (w.k, tt))))))
row_reads place (Alu Mod X) w s t l = (l, (tt, (tt, (tt, (tt, tt)))))
row_reads place (Alu Xor (Imm k)) w s t l = (l, (tt, (tt, (tt, (tt, (w.k, tt))))))
row_reads place (Alu Xor X) w s t l = (l, (tt, (tt, (tt, (tt, tt)))))
row_reads place Neg w s t l = (l, (tt, (tt, tt)))
row_reads place (Jump k) w s t l = (l, (tt, (tt, (t (place + 1 + k) (s (place + 1 + k) refl), tt))))
row_reads place (Branch Eq (Imm k) jt jf) w s t l = (l, (tt, (tt, (tt, (tt, (w.k, (tt, (t (place + 1 + jt) (s (place + 1 + jt) (inl refl)), (tt, (t (place + 1 + jf) (s (place + 1 + jf) (inr refl)), tt))))))))))
row_reads place (Branch Eq X jt jf) w s t l = (l, (tt, (tt, (tt, (tt, (tt, (t (place + 1 + jt) (s (place + 1 + jt) (inl refl)), (tt, (t (place + 1 + jf) (s (place + 1 + jf) (inr refl)), tt)))))))))
row_reads place (Branch Gt (Imm k) jt jf) w s t l = (l, (tt, (tt, (tt, (tt, (w.k, (tt, (t (place + 1 + jt) (s (place + 1 + jt) (inl refl)), (tt, (t (place + 1 + jf) (s (place + 1 + jf) (inr refl)), tt))))))))))
row_reads place (Branch Gt X jt jf) w s t l = (l, (tt, (tt, (tt, (tt, (tt, (t (place + 1 + jt) (s (place + 1 + jt) (inl refl)), (tt, (t (place + 1 + jf) (s (place + 1 + jf) (inr refl)), tt)))))))))
row_reads place (Branch Ge (Imm k) jt jf) w s t l = (l, (tt, (tt, (tt, (tt, (w.k, (tt, (t (place + 1 + jt) (s (place + 1 + jt) (inl refl)), (tt, (t (place + 1 + jf) (s (place + 1 + jf) (inr refl)), tt))))))))))
row_reads place (Branch Ge X jt jf) w s t l = (l, (tt, (tt, (tt, (tt, (tt, (t (place + 1 + jt) (s (place + 1 + jt) (inl refl)), (tt, (t (place + 1 + jf) (s (place + 1 + jf) (inr refl)), tt)))))))))
row_reads place (Branch Set (Imm k) jt jf) w s t l = (l, (tt, (tt, (tt, (tt, (w.k, (tt, (t (place + 1 + jt) (s (place + 1 + jt) (inl refl)), (tt, (t (place + 1 + jf) (s (place + 1 + jf) (inr refl)), tt))))))))))
row_reads place (Branch Set X jt jf) w s t l = (l, (tt, (tt, (tt, (tt, (tt, (t (place + 1 + jt) (s (place + 1 + jt) (inl refl)), (tt, (t (place + 1 + jf) (s (place + 1 + jf) (inr refl)), tt)))))))))
row_reads place (RetK k) w s t l = (l, (tt, (tt, (w.k, tt))))
row_reads place RetA w s t l = (l, (tt, (tt, tt)))
row_reads place Tax w s t l = (l, (tt, (tt, tt)))
row_reads place Txa w s t l = (l, (tt, (tt, tt)))
