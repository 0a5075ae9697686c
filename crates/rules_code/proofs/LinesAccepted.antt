-- The code of lines is accepted.
use Rattle.std.proofs.Common.{◌≡◌, ℕ, zero, suc, ◌+◌, ◌-◌, ◌≤◌, ◌<◌, List, [], ◌∷◌, length, inl, inr, subst, arith}
use Rattle.std.proofs.lemmas.Option.{same_Some}
use Rattle.bpf_code.specs.Flow.{IsInstrAt, IsReturn, JumpsTo}
use Rattle.bpf_code.specs.Operands.{DividesBy, ShiftsBy}
use Rattle.bpf_code.specs.Scratch.{NamesWord}
use Rattle.bpf_code.specs.declared.instr.By.TheVariants.{Imm}
use Rattle.bpf_code.specs.declared.instr.Instr.{Instr}
use Rattle.bpf_code.specs.declared.instr.Instr.TheVariants.{LoadAbs, Alu, Jump, Branch, RetK}
use Rattle.bpf_code.specs.declared.instr.Op.TheVariants.{And}
use Rattle.bpf_verify.specs.Accepted.{IsAccepted}
use Rattle.rules_code.specs.LineCode.{lines_code}
use Rattle.rules_code.specs.inner.Suffixes.{suffix_at}
use Rattle.rules_code.specs.declared.lines.Line.{Line}
use Rattle.rules_code.proofs.Growing.{AreSound, IsSoundBefore}
use Rattle.rules_code.proofs.LinesFit.{lines_whole}
use Rattle.rules_code.proofs.Suffixes.{instr_at_suffix}

-- A sound instruction uses no scratch word.
no_word : (i : Instr) (n word : ℕ) → IsSoundBefore i n → NamesWord i word → ⊥
no_word (LoadAbs size k) n word s (inl h) = h
no_word (LoadAbs size k) n word s (inr h) = h
no_word (Alu And (Imm k)) n word s (inl h) = h
no_word (Alu And (Imm k)) n word s (inr h) = h
no_word (Jump k) n word s (inl h) = h
no_word (Jump k) n word s (inr h) = h
no_word (Branch test (Imm k) jt jf) n word s (inl h) = h
no_word (Branch test (Imm k) jt jf) n word s (inr h) = h
no_word (RetK k) n word s (inl h) = h
no_word (RetK k) n word s (inr h) = h
no_word _ n word s h = absurd s

no_divisor : (i : Instr) (n divisor : ℕ) → IsSoundBefore i n → DividesBy i divisor → ⊥
no_divisor (LoadAbs size k) n d s h = h
no_divisor (Alu And (Imm k)) n d s h = h
no_divisor (Jump k) n d s h = h
no_divisor (Branch test (Imm k) jt jf) n d s h = h
no_divisor (RetK k) n d s h = h
no_divisor _ n d s h = absurd s

no_shift : (i : Instr) (n count : ℕ) → IsSoundBefore i n → ShiftsBy i count → ⊥
no_shift (LoadAbs size k) n c s h = h
no_shift (Alu And (Imm k)) n c s h = h
no_shift (Jump k) n c s h = h
no_shift (Branch test (Imm k) jt jf) n c s h = h
no_shift (RetK k) n c s h = h
no_shift _ n c s h = absurd s

stays : (i : Instr) (n place size target : ℕ) → IsSoundBefore i n → place + 1 + n ≡ size → JumpsTo place i target → target < size
stays (LoadAbs size' k) n place size target s e h = absurd h
stays (Alu And (Imm k)) n place size target s e h = absurd h
stays (Jump k) n place size target s e h = omega arith
stays (Branch test (Imm k) jt jf) n place size target s e (inl h) = let p = s.0 in omega arith
stays (Branch test (Imm k) jt jf) n place size target s e (inr h) = let p = s.1 in omega arith
stays (RetK k) n place size target s e h = absurd h
stays _ n place size target s e h = absurd s

-- The instruction at a place is sound, followed by the code after it.
sound_at : (code : List Instr) (place : ℕ) (i : Instr) → AreSound code → IsInstrAt code place i → (n : ℕ) × (place + 1 + n ≡ length code) × IsSoundBefore i n
sound_at [] place i s at = absurd cc
sound_at (j ∷ code) zero i s at =
    let same = same_Some j i at in
    (length code, omega arith, subst (λ (x : Instr). IsSoundBefore x (length code)) same s.0)
sound_at (j ∷ code) (suc place) i s at =
    let later = sound_at code place i s.1 at in
    let e = later.1 in
    (later.0, omega arith, later.2)

-- Sound code that ends with a return is accepted.
accepted : (code : List Instr) (last : Instr) → AreSound code → suffix_at code 1 ≡ last ∷ [] → IsReturn last → 1 ≤ length code → length code ≤ 4096 → IsAccepted code
accepted code last sound ends returns some few = record {
  sized = record { least = omega arith; most = few };
  sound = λ place i at.
      let here = sound_at code place i sound at in
      record {
        scratch = λ word h. absurd (no_word i here.0 word here.2 h);
        divisor = λ divisor h. absurd (no_divisor i here.0 divisor here.2 h);
        shift = λ count h. absurd (no_shift i here.0 count here.2 h);
        targets = λ target h. stays i here.0 place (length code) target here.2 here.1 h;
      };
  ends = (last, instr_at_suffix code (length code - 1) last [] ends, returns);
  written = λ place word passed path reads.
      let here = sound_at code place reads.0 sound reads.1 in
      absurd (no_word reads.0 here.0 word here.2 (inl reads.2));
}

pub lines_accepted : (lines : List Line) (otherwise : ℕ) → length (lines_code lines otherwise) ≤ 4096 → IsAccepted (lines_code lines otherwise)
lines_accepted lines otherwise few =
    let w = lines_whole lines otherwise in
    accepted (lines_code lines otherwise) _ w.sound w.last tt w.some few
