-- The texts of instructions.
use Rattle.std.proofs.Common.{◌≡◌, ℕ, true, false, if◌then◌else◌, List, ◌++◌, codes, decimal, refl, sym, ap, ◌∙◌, Result, Ok, Err, is_ok, OnOk}
use Rattle.bpf_asm.specs.Listing.{instruction_text}
use Rattle.bpf_asm.specs.StatementSpelling.{spellings}
use Rattle.bpf_code.specs.declared.instr.Instr.TheVariants.{LdxLen, LdxMsh}

-- A text after another was appended.
pub long_text : {A E : Type 0} (r : Result A E) (old new text : List ℕ) → new ≡ (if is_ok r then old ++ text else old) → OnOk r (new ≡ old ++ text)
long_text (Ok v) old new text e = e
long_text (Err f) old new text e = tt

pub LdxLen_text : (place : ℕ) → instruction_text place LdxLen ≡ codes "ldx #len"
unfolding instruction_text spellings
LdxLen_text place = refl

pub LdxMsh_text : (place k : ℕ) → instruction_text place (LdxMsh k) ≡ codes "ldxb 4*([" ++ (decimal k ++ codes "]&0xf)")
unfolding instruction_text spellings
LdxMsh_text place k = refl

-- A property of a result whose error was changed.
pub ok_mapped : {A E F : Type 0} (r : Result A E) (m : Result A F) (v : A) (P : Type 0) → m ≡ Ok v → is_ok m ≡ is_ok r → OnOk r P → P
ok_mapped (Ok w) m v P was same h = h
ok_mapped {A} {E} {F} (Err e) m v P was same h = let t : true ≡ false = sym (ap (is_ok {T = A} {E = F}) was) ∙ same in cc
