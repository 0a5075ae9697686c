-- A statement that is read after a name of the tables has these tokens as one of its spellings.
use Rattle.std.proofs.Common.{◌≡◌, ◌⊎◌, ℕ, Bool, true, false, if◌then◌else◌, List, [], ◌∷◌, Option, Some, None, codes, refl, ap, ◌∙◌, inl, inr}
use Rattle.std.specs.Str.{bytes_eq}
use Rattle.std.proofs.lemmas.Slice.Eq.{bytes_eq-Decides}
use Rattle.bpf_asm.specs.Numbers.{number_of_word, value_after}
use Rattle.bpf_asm.specs.inner.Reading.{arithmetic_in, branch_in, table_entry, header_in, inverse_in, inverse_of, moved_forms, moved_in, op_of, op_rows, test_rows, inverse_rows, other_forms, other_in, scratch_in, branch_named}
use Rattle.bpf_asm.specs.StatementSpelling.{Statement, plain, branch, spellings}
use Rattle.bpf_asm.specs.Tokens.{Token, name, number, mark, pieces_of, tokens_of, word_token}
use Rattle.bpf_code.specs.declared.instr.Instr.TheVariants.{LdxMsh, Store, StoreX, Alu, Neg, Tax, Txa}
use Rattle.bpf_code.specs.declared.instr.Op.{Op}
use Rattle.bpf_code.specs.declared.instr.Op.TheVariants.{Add, Sub, Mul, Div, Or, And, Lsh, Rsh, Mod, Xor}
use Rattle.bpf_code.specs.declared.instr.Size.TheVariants.{Half, Octet}
use Rattle.bpf_code.specs.declared.instr.Test.{Test}
use Rattle.bpf_code.specs.declared.instr.Test.TheVariants.{Eq, Gt, Ge, Set}
use Rattle.bpf_asm.proofs.cuts.TokenCuts.{some_same, next_some, operand_tokens}
use Rattle.bpf_asm.proofs.spellings.FormTokens.{scratch_is, header_is, header_tokens}
use Rattle.bpf_asm.proofs.spellings.FormSpellings.{Named, numbered, lone, packet_sound, word_sound, index_sound, return_sound, jump_sound, both_operands, arithmetic_sound, one_tokens, two_tokens, inverse_sound, branch_sound}

-- Some row of the table has this name and this value.
abbrev IsEntry : {A : Type 0} → List ℕ → A → List (List ℕ × A) → Type 0
IsEntry octets value [] = ⊥
IsEntry octets value (row ∷ rows) = ((octets ≡ row.0) × (row.1 ≡ value)) ⊎ IsEntry octets value rows

entry_step : {A : Type 0} (t : Bool) (a value : A) (other : Option A) → (if t then Some a else other) ≡ Some value → ((t ≡ true) × (a ≡ value)) ⊎ (other ≡ Some value)
entry_step true a value other e = inl (refl, some_same a value e)
entry_step false a value other e = inr e

entry_is : {A : Type 0} (octets : List ℕ) (value : A) (rows : List (List ℕ × A)) → table_entry octets rows ≡ Some value → IsEntry octets value rows
entry_is octets value [] e = cc
entry_is octets value (row ∷ rows) e =
    elim (entry_step (bytes_eq octets row.0) row.1 value (table_entry octets rows) e) [
      | inl t ↦ inl ((bytes_eq-Decides octets row.0).0 t.0, t.1)
      | inr f ↦ inr (entry_is octets value rows f)
    ]

at_name : (octets word : List ℕ) (ts : List Token) (s : Statement) → octets ≡ word → Named word ts s → Named octets ts s
at_name octets word ts s e h = rw e h

pub op_sound : (octets : List ℕ) (ts : List Token) (s : Statement) (op : Op) → op_of octets ≡ Some op → arithmetic_in op ts ≡ Some s → Named octets ts s
unfolding op_of spellings tokens_of pieces_of word_token number_of_word value_after
op_sound octets ts s op o e =
    elim (entry_is octets op op_rows o) [
      | inl w ↦ at_name octets (codes "add") ts s w.0 (arithmetic_sound Add (codes "add") ts s (both_operands (λ by. Named (codes "add") (operand_tokens by) (plain (Alu Add by))) (λ k. inl refl) (inl refl)) (rw w.1 e))
      | inr r0 ↦ elim r0 [
        | inl w ↦ at_name octets (codes "sub") ts s w.0 (arithmetic_sound Sub (codes "sub") ts s (both_operands (λ by. Named (codes "sub") (operand_tokens by) (plain (Alu Sub by))) (λ k. inl refl) (inl refl)) (rw w.1 e))
        | inr r1 ↦ elim r1 [
          | inl w ↦ at_name octets (codes "mul") ts s w.0 (arithmetic_sound Mul (codes "mul") ts s (both_operands (λ by. Named (codes "mul") (operand_tokens by) (plain (Alu Mul by))) (λ k. inl refl) (inl refl)) (rw w.1 e))
          | inr r2 ↦ elim r2 [
            | inl w ↦ at_name octets (codes "div") ts s w.0 (arithmetic_sound Div (codes "div") ts s (both_operands (λ by. Named (codes "div") (operand_tokens by) (plain (Alu Div by))) (λ k. inl refl) (inl refl)) (rw w.1 e))
            | inr r3 ↦ elim r3 [
              | inl w ↦ at_name octets (codes "or") ts s w.0 (arithmetic_sound Or (codes "or") ts s (both_operands (λ by. Named (codes "or") (operand_tokens by) (plain (Alu Or by))) (λ k. inl refl) (inl refl)) (rw w.1 e))
              | inr r4 ↦ elim r4 [
                | inl w ↦ at_name octets (codes "and") ts s w.0 (arithmetic_sound And (codes "and") ts s (both_operands (λ by. Named (codes "and") (operand_tokens by) (plain (Alu And by))) (λ k. inl refl) (inl refl)) (rw w.1 e))
                | inr r5 ↦ elim r5 [
                  | inl w ↦ at_name octets (codes "lsh") ts s w.0 (arithmetic_sound Lsh (codes "lsh") ts s (both_operands (λ by. Named (codes "lsh") (operand_tokens by) (plain (Alu Lsh by))) (λ k. inl refl) (inl refl)) (rw w.1 e))
                  | inr r6 ↦ elim r6 [
                    | inl w ↦ at_name octets (codes "rsh") ts s w.0 (arithmetic_sound Rsh (codes "rsh") ts s (both_operands (λ by. Named (codes "rsh") (operand_tokens by) (plain (Alu Rsh by))) (λ k. inl refl) (inl refl)) (rw w.1 e))
                    | inr r7 ↦ elim r7 [
                      | inl w ↦ at_name octets (codes "mod") ts s w.0 (arithmetic_sound Mod (codes "mod") ts s (both_operands (λ by. Named (codes "mod") (operand_tokens by) (plain (Alu Mod by))) (λ k. inl refl) (inl refl)) (rw w.1 e))
                      | inr r8 ↦ elim r8 [
                        | inl w ↦ at_name octets (codes "xor") ts s w.0 (arithmetic_sound Xor (codes "xor") ts s (both_operands (λ by. Named (codes "xor") (operand_tokens by) (plain (Alu Xor by))) (λ k. inl refl) (inl refl)) (rw w.1 e))
                        | inr r9 ↦ absurd r9
                      ]
                    ]
                  ]
                ]
              ]
            ]
          ]
        ]
      ]
    ]

pub test_sound : (octets : List ℕ) (ts : List Token) (s : Statement) (test : Test) → branch_named octets ≡ Some test → branch_in test ts ≡ Some s → Named octets ts s
unfolding branch_named spellings tokens_of pieces_of word_token number_of_word value_after
test_sound octets ts s test o e =
    elim (entry_is octets test test_rows o) [
      | inl w ↦ at_name octets (codes "jeq") ts s w.0 (branch_sound Eq (codes "jeq") ts s (both_operands (λ by. (l : List ℕ) → Named (codes "jeq") (one_tokens by l) (branch Eq by (Some l) None)) (λ k l. inl refl) (λ l. inl refl)) (both_operands (λ by. (l m : List ℕ) → Named (codes "jeq") (two_tokens by l m) (branch Eq by (Some l) (Some m))) (λ k l m. inl refl) (λ l m. inl refl)) (rw w.1 e))
      | inr r0 ↦ elim r0 [
        | inl w ↦ at_name octets (codes "jgt") ts s w.0 (branch_sound Gt (codes "jgt") ts s (both_operands (λ by. (l : List ℕ) → Named (codes "jgt") (one_tokens by l) (branch Gt by (Some l) None)) (λ k l. inl refl) (λ l. inl refl)) (both_operands (λ by. (l m : List ℕ) → Named (codes "jgt") (two_tokens by l m) (branch Gt by (Some l) (Some m))) (λ k l m. inl refl) (λ l m. inl refl)) (rw w.1 e))
        | inr r1 ↦ elim r1 [
          | inl w ↦ at_name octets (codes "jge") ts s w.0 (branch_sound Ge (codes "jge") ts s (both_operands (λ by. (l : List ℕ) → Named (codes "jge") (one_tokens by l) (branch Ge by (Some l) None)) (λ k l. inl refl) (λ l. inl refl)) (both_operands (λ by. (l m : List ℕ) → Named (codes "jge") (two_tokens by l m) (branch Ge by (Some l) (Some m))) (λ k l m. inl refl) (λ l m. inl refl)) (rw w.1 e))
          | inr r2 ↦ elim r2 [
            | inl w ↦ at_name octets (codes "jset") ts s w.0 (branch_sound Set (codes "jset") ts s (both_operands (λ by. (l : List ℕ) → Named (codes "jset") (one_tokens by l) (branch Set by (Some l) None)) (λ k l. inl refl) (λ l. inl refl)) (both_operands (λ by. (l m : List ℕ) → Named (codes "jset") (two_tokens by l m) (branch Set by (Some l) (Some m))) (λ k l m. inl refl) (λ l m. inl refl)) (rw w.1 e))
            | inr r3 ↦ absurd r3
          ]
        ]
      ]
    ]

pub inverse_named : (octets : List ℕ) (ts : List Token) (s : Statement) (test : Test) → inverse_of octets ≡ Some test → inverse_in test ts ≡ Some s → Named octets ts s
unfolding inverse_of spellings tokens_of pieces_of word_token number_of_word value_after
inverse_named octets ts s test o e =
    elim (entry_is octets test inverse_rows o) [
      | inl w ↦ at_name octets (codes "jne") ts s w.0 (inverse_sound Eq (codes "jne") ts s (both_operands (λ by. (l : List ℕ) → Named (codes "jne") (one_tokens by l) (branch Eq by None (Some l))) (λ k l. inl refl) (λ l. inl refl)) (rw w.1 e))
      | inr r0 ↦ elim r0 [
        | inl w ↦ at_name octets (codes "jneq") ts s w.0 (inverse_sound Eq (codes "jneq") ts s (both_operands (λ by. (l : List ℕ) → Named (codes "jneq") (one_tokens by l) (branch Eq by None (Some l))) (λ k l. inr (inl refl)) (λ l. inr (inl refl))) (rw w.1 e))
        | inr r1 ↦ elim r1 [
          | inl w ↦ at_name octets (codes "jlt") ts s w.0 (inverse_sound Ge (codes "jlt") ts s (both_operands (λ by. (l : List ℕ) → Named (codes "jlt") (one_tokens by l) (branch Ge by None (Some l))) (λ k l. inl refl) (λ l. inl refl)) (rw w.1 e))
          | inr r2 ↦ elim r2 [
            | inl w ↦ at_name octets (codes "jle") ts s w.0 (inverse_sound Gt (codes "jle") ts s (both_operands (λ by. (l : List ℕ) → Named (codes "jle") (one_tokens by l) (branch Gt by None (Some l))) (λ k l. inl refl) (λ l. inl refl)) (rw w.1 e))
            | inr r3 ↦ absurd r3
          ]
        ]
      ]
    ]

moved_form : (octets : List ℕ) (ts : List Token) (s : Statement) (form : List Token → Option Statement) → IsEntry octets form moved_forms → form ts ≡ Some s → Named octets ts s
unfolding spellings tokens_of pieces_of word_token number_of_word value_after
moved_form octets ts s form o e =
    elim o [
      | inl w ↦ at_name octets (codes "ld") ts s w.0 (word_sound ts s (ap (λ (f : List Token → Option Statement). f ts) w.1 ∙ e))
      | inr r0 ↦ elim r0 [
        | inl w ↦ at_name octets (codes "ldh") ts s w.0 (packet_sound Half (codes "ldh") ts s (λ k. inl refl) (λ k. inl refl) (ap (λ (f : List Token → Option Statement). f ts) w.1 ∙ e))
        | inr r1 ↦ elim r1 [
          | inl w ↦ at_name octets (codes "ldb") ts s w.0 (packet_sound Octet (codes "ldb") ts s (λ k. inl refl) (λ k. inl refl) (ap (λ (f : List Token → Option Statement). f ts) w.1 ∙ e))
          | inr r2 ↦ elim r2 [
            | inl w ↦ at_name octets (codes "ldx") ts s w.0 (index_sound ts s (ap (λ (f : List Token → Option Statement). f ts) w.1 ∙ e))
            | inr r3 ↦ elim r3 [
              | inl w ↦ at_name octets (codes "ldxb") ts s w.0 (numbered (codes "ldxb") ts s (header_in ts) (λ k. plain (LdxMsh k)) header_tokens (ap (λ (f : List Token → Option Statement). f ts) w.1 ∙ e) (header_is ts) (λ k. inl refl))
              | inr r4 ↦ elim r4 [
                | inl w ↦ at_name octets (codes "st") ts s w.0 (numbered (codes "st") ts s (scratch_in ts) (λ k. plain (Store k)) (λ k. name (codes "M") ∷ mark 91 ∷ number k ∷ mark 93 ∷ []) (ap (λ (f : List Token → Option Statement). f ts) w.1 ∙ e) (scratch_is ts) (λ k. inl refl))
                | inr r5 ↦ elim r5 [
                  | inl w ↦ at_name octets (codes "stx") ts s w.0 (numbered (codes "stx") ts s (scratch_in ts) (λ k. plain (StoreX k)) (λ k. name (codes "M") ∷ mark 91 ∷ number k ∷ mark 93 ∷ []) (ap (λ (f : List Token → Option Statement). f ts) w.1 ∙ e) (scratch_is ts) (λ k. inl refl))
                  | inr r6 ↦ absurd r6
                ]
              ]
            ]
          ]
        ]
      ]
    ]

pub moved_sound : (octets : List ℕ) (ts : List Token) (s : Statement) → moved_in octets ts ≡ Some s → Named octets ts s
unfolding moved_in
moved_sound octets ts s e =
    let n = next_some (table_entry octets moved_forms) (λ form. form ts) s e in
    moved_form octets ts s n.0 (entry_is octets n.0 moved_forms n.1) n.2

other_form : (octets : List ℕ) (ts : List Token) (s : Statement) (form : List Token → Option Statement) → IsEntry octets form other_forms → form ts ≡ Some s → Named octets ts s
unfolding spellings tokens_of pieces_of word_token number_of_word value_after
other_form octets ts s form o e =
    elim o [
      | inl w ↦ at_name octets (codes "neg") ts s w.0 (lone (codes "neg") ts s (plain Neg) (ap (λ (f : List Token → Option Statement). f ts) w.1 ∙ e) (inl refl))
      | inr r0 ↦ elim r0 [
        | inl w ↦ at_name octets (codes "ja") ts s w.0 (jump_sound (codes "ja") ts s (λ l. inl refl) (ap (λ (f : List Token → Option Statement). f ts) w.1 ∙ e))
        | inr r1 ↦ elim r1 [
          | inl w ↦ at_name octets (codes "jmp") ts s w.0 (jump_sound (codes "jmp") ts s (λ l. inr (inl refl)) (ap (λ (f : List Token → Option Statement). f ts) w.1 ∙ e))
          | inr r2 ↦ elim r2 [
            | inl w ↦ at_name octets (codes "ret") ts s w.0 (return_sound ts s (ap (λ (f : List Token → Option Statement). f ts) w.1 ∙ e))
            | inr r3 ↦ elim r3 [
              | inl w ↦ at_name octets (codes "tax") ts s w.0 (lone (codes "tax") ts s (plain Tax) (ap (λ (f : List Token → Option Statement). f ts) w.1 ∙ e) (inl refl))
              | inr r4 ↦ elim r4 [
                | inl w ↦ at_name octets (codes "txa") ts s w.0 (lone (codes "txa") ts s (plain Txa) (ap (λ (f : List Token → Option Statement). f ts) w.1 ∙ e) (inl refl))
                | inr r5 ↦ absurd r5
              ]
            ]
          ]
        ]
      ]
    ]

pub other_sound : (octets : List ℕ) (ts : List Token) (s : Statement) → other_in octets ts ≡ Some s → Named octets ts s
unfolding other_in
other_sound octets ts s e =
    let n = next_some (table_entry octets other_forms) (λ form. form ts) s e in
    other_form octets ts s n.0 (entry_is octets n.0 other_forms n.1) n.2
