-- Every spelling of a statement is read as that statement.
use Rattle.std.proofs.Common.{◌≡◌, List, Some, None, refl, inl, inr}
use Rattle.bpf_asm.specs.Grammar.{IsOneOf}
use Rattle.bpf_asm.specs.Numbers.{number_of_word, value_after}
use Rattle.bpf_asm.specs.inner.Reading.{inverse_of, moved_in, named_in, op_of, other_in, statement_in, branch_named}
use Rattle.bpf_asm.specs.StatementSpelling.{Statement, plain, jump, branch, spellings}
use Rattle.bpf_asm.specs.Tokens.{Token, pieces_of, tokens_of, word_token}
use Rattle.bpf_code.specs.declared.instr.By.TheVariants.{Imm, X}
use Rattle.bpf_code.specs.declared.instr.Instr.TheVariants.{LoadAbs, LoadInd, LoadImm, LoadMem, LoadLen, LdxImm, LdxMem, LdxLen, LdxMsh, Store, StoreX, Alu, Neg, Jump, Branch, RetK, RetA, Tax, Txa}
use Rattle.bpf_code.specs.declared.instr.Op.TheVariants.{Add, Sub, Mul, Div, Or, And, Lsh, Rsh, Mod, Xor}
use Rattle.bpf_code.specs.declared.instr.Size.TheVariants.{Word, Half, Octet}
use Rattle.bpf_code.specs.declared.instr.Test.TheVariants.{Eq, Gt, Ge, Set}

-- A spelling of a statement is read as that statement.
pub reads_back : (ts : List Token) (s : Statement) → IsOneOf ts (spellings s) → statement_in ts ≡ Some s
unfolding spellings statement_in named_in op_of branch_named inverse_of moved_in other_in tokens_of pieces_of word_token number_of_word value_after
reads_back ts (plain (LoadAbs Word k)) h = elim h [ inl e ↦ rw e refl | inr e ↦ absurd e ]
reads_back ts (plain (LoadInd Word k)) h = elim h [ inl e ↦ rw e refl | inr e ↦ absurd e ]
reads_back ts (plain (LoadAbs Half k)) h = elim h [ inl e ↦ rw e refl | inr e ↦ absurd e ]
reads_back ts (plain (LoadInd Half k)) h = elim h [ inl e ↦ rw e refl | inr e ↦ absurd e ]
reads_back ts (plain (LoadAbs Octet k)) h = elim h [ inl e ↦ rw e refl | inr e ↦ absurd e ]
reads_back ts (plain (LoadInd Octet k)) h = elim h [ inl e ↦ rw e refl | inr e ↦ absurd e ]
reads_back ts (plain (LoadImm k)) h = elim h [ inl e ↦ rw e refl | inr e ↦ absurd e ]
reads_back ts (plain (LoadMem k)) h = elim h [ inl e ↦ rw e refl | inr e ↦ absurd e ]
reads_back ts (plain LoadLen) h = elim h [ inl e ↦ rw e refl | inr e ↦ absurd e ]
reads_back ts (plain (LdxImm k)) h = elim h [ inl e ↦ rw e refl | inr e ↦ absurd e ]
reads_back ts (plain (LdxMem k)) h = elim h [ inl e ↦ rw e refl | inr e ↦ absurd e ]
reads_back ts (plain LdxLen) h = elim h [ inl e ↦ rw e refl | inr e ↦ absurd e ]
reads_back ts (plain (LdxMsh k)) h = elim h [ inl e ↦ rw e refl | inr f ↦ elim f [ inl e ↦ rw e refl | inr g ↦ absurd g ] ]
reads_back ts (plain (Store k)) h = elim h [ inl e ↦ rw e refl | inr e ↦ absurd e ]
reads_back ts (plain (StoreX k)) h = elim h [ inl e ↦ rw e refl | inr e ↦ absurd e ]
reads_back ts (plain Neg) h = elim h [ inl e ↦ rw e refl | inr e ↦ absurd e ]
reads_back ts (plain (RetK k)) h = elim h [ inl e ↦ rw e refl | inr e ↦ absurd e ]
reads_back ts (plain RetA) h = elim h [ inl e ↦ rw e refl | inr e ↦ absurd e ]
reads_back ts (plain Tax) h = elim h [ inl e ↦ rw e refl | inr e ↦ absurd e ]
reads_back ts (plain Txa) h = elim h [ inl e ↦ rw e refl | inr e ↦ absurd e ]
reads_back ts (plain (Alu Add (Imm k))) h = elim h [ inl e ↦ rw e refl | inr e ↦ absurd e ]
reads_back ts (plain (Alu Add X)) h = elim h [ inl e ↦ rw e refl | inr e ↦ absurd e ]
reads_back ts (plain (Alu Sub (Imm k))) h = elim h [ inl e ↦ rw e refl | inr e ↦ absurd e ]
reads_back ts (plain (Alu Sub X)) h = elim h [ inl e ↦ rw e refl | inr e ↦ absurd e ]
reads_back ts (plain (Alu Mul (Imm k))) h = elim h [ inl e ↦ rw e refl | inr e ↦ absurd e ]
reads_back ts (plain (Alu Mul X)) h = elim h [ inl e ↦ rw e refl | inr e ↦ absurd e ]
reads_back ts (plain (Alu Div (Imm k))) h = elim h [ inl e ↦ rw e refl | inr e ↦ absurd e ]
reads_back ts (plain (Alu Div X)) h = elim h [ inl e ↦ rw e refl | inr e ↦ absurd e ]
reads_back ts (plain (Alu Or (Imm k))) h = elim h [ inl e ↦ rw e refl | inr e ↦ absurd e ]
reads_back ts (plain (Alu Or X)) h = elim h [ inl e ↦ rw e refl | inr e ↦ absurd e ]
reads_back ts (plain (Alu And (Imm k))) h = elim h [ inl e ↦ rw e refl | inr e ↦ absurd e ]
reads_back ts (plain (Alu And X)) h = elim h [ inl e ↦ rw e refl | inr e ↦ absurd e ]
reads_back ts (plain (Alu Lsh (Imm k))) h = elim h [ inl e ↦ rw e refl | inr e ↦ absurd e ]
reads_back ts (plain (Alu Lsh X)) h = elim h [ inl e ↦ rw e refl | inr e ↦ absurd e ]
reads_back ts (plain (Alu Rsh (Imm k))) h = elim h [ inl e ↦ rw e refl | inr e ↦ absurd e ]
reads_back ts (plain (Alu Rsh X)) h = elim h [ inl e ↦ rw e refl | inr e ↦ absurd e ]
reads_back ts (plain (Alu Mod (Imm k))) h = elim h [ inl e ↦ rw e refl | inr e ↦ absurd e ]
reads_back ts (plain (Alu Mod X)) h = elim h [ inl e ↦ rw e refl | inr e ↦ absurd e ]
reads_back ts (plain (Alu Xor (Imm k))) h = elim h [ inl e ↦ rw e refl | inr e ↦ absurd e ]
reads_back ts (plain (Alu Xor X)) h = elim h [ inl e ↦ rw e refl | inr e ↦ absurd e ]
reads_back ts (plain (Jump k)) h = absurd h
reads_back ts (plain (Branch test by jt jf)) h = absurd h
reads_back ts (jump target) h = elim h [ inl e ↦ rw e refl | inr f ↦ elim f [ inl e ↦ rw e refl | inr g ↦ absurd g ] ]
reads_back ts (branch Eq (Imm k) (Some met) (Some unmet)) h = elim h [ inl e ↦ rw e refl | inr e ↦ absurd e ]
reads_back ts (branch Eq (Imm k) (Some met) None) h = elim h [ inl e ↦ rw e refl | inr e ↦ absurd e ]
reads_back ts (branch Eq (Imm k) None (Some unmet)) h = elim h [ inl e ↦ rw e refl | inr f ↦ elim f [ inl e ↦ rw e refl | inr g ↦ absurd g ] ]
reads_back ts (branch Eq X (Some met) (Some unmet)) h = elim h [ inl e ↦ rw e refl | inr e ↦ absurd e ]
reads_back ts (branch Eq X (Some met) None) h = elim h [ inl e ↦ rw e refl | inr e ↦ absurd e ]
reads_back ts (branch Eq X None (Some unmet)) h = elim h [ inl e ↦ rw e refl | inr f ↦ elim f [ inl e ↦ rw e refl | inr g ↦ absurd g ] ]
reads_back ts (branch Gt (Imm k) (Some met) (Some unmet)) h = elim h [ inl e ↦ rw e refl | inr e ↦ absurd e ]
reads_back ts (branch Gt (Imm k) (Some met) None) h = elim h [ inl e ↦ rw e refl | inr e ↦ absurd e ]
reads_back ts (branch Gt (Imm k) None (Some unmet)) h = elim h [ inl e ↦ rw e refl | inr e ↦ absurd e ]
reads_back ts (branch Gt X (Some met) (Some unmet)) h = elim h [ inl e ↦ rw e refl | inr e ↦ absurd e ]
reads_back ts (branch Gt X (Some met) None) h = elim h [ inl e ↦ rw e refl | inr e ↦ absurd e ]
reads_back ts (branch Gt X None (Some unmet)) h = elim h [ inl e ↦ rw e refl | inr e ↦ absurd e ]
reads_back ts (branch Ge (Imm k) (Some met) (Some unmet)) h = elim h [ inl e ↦ rw e refl | inr e ↦ absurd e ]
reads_back ts (branch Ge (Imm k) (Some met) None) h = elim h [ inl e ↦ rw e refl | inr e ↦ absurd e ]
reads_back ts (branch Ge (Imm k) None (Some unmet)) h = elim h [ inl e ↦ rw e refl | inr e ↦ absurd e ]
reads_back ts (branch Ge X (Some met) (Some unmet)) h = elim h [ inl e ↦ rw e refl | inr e ↦ absurd e ]
reads_back ts (branch Ge X (Some met) None) h = elim h [ inl e ↦ rw e refl | inr e ↦ absurd e ]
reads_back ts (branch Ge X None (Some unmet)) h = elim h [ inl e ↦ rw e refl | inr e ↦ absurd e ]
reads_back ts (branch Set (Imm k) (Some met) (Some unmet)) h = elim h [ inl e ↦ rw e refl | inr e ↦ absurd e ]
reads_back ts (branch Set (Imm k) (Some met) None) h = elim h [ inl e ↦ rw e refl | inr e ↦ absurd e ]
reads_back ts (branch Set (Imm k) None (Some unmet)) h = absurd h
reads_back ts (branch Set X (Some met) (Some unmet)) h = elim h [ inl e ↦ rw e refl | inr e ↦ absurd e ]
reads_back ts (branch Set X (Some met) None) h = elim h [ inl e ↦ rw e refl | inr e ↦ absurd e ]
reads_back ts (branch Set X None (Some unmet)) h = absurd h
reads_back ts (branch test by None None) h = absurd h
