-- Every code and all octets are a program or refused, and in one way only. This is in `specs/` because ProgramLaws uses it.
use Rattle.std.proofs.Common.{◌≡◌, ℕ, inl, inr, List, refl, ap, sym, ◌∙◌, subst}
use Rattle.bpf_code.specs.declared.instr.Instr.{Instr}
use Rattle.bpf_code.proofs.Public.{code-or_fault, SpellsCode-unique, code-no_fault, one-decode_fault}
use Rattle.bpf_verify.specs.Accepted.{IsAccepted}
use Rattle.bpf_verify.proofs.Public.{accepted-or_fault, one_comes_first, refused-from_fault}
use Rattle.cmd_programs.specs.Program.{ProgramReading, is_program, is_refused, ChecksAs, ReadsAs}
use Rattle.cmd_programs.specs.CodeFaults.{decode_fault, verify_fault}

-- Every code is a program or refused.
pub checks-as : (code : List Instr) → (reading : ProgramReading) × ChecksAs code reading
checks-as code =
    elim (accepted-or_fault code) [
      | inl accepted ↦ (is_program code, (accepted, refl))
      | inr faulty ↦ (is_refused (verify_fault faulty.0), (faulty.0, faulty.1, refl))
    ]

-- All octets are a program or refused.
pub reads-as : (octets : List ℕ) → (reading : ProgramReading) × ReadsAs octets reading
reads-as octets =
    elim (code-or_fault octets) [
      | inl spelled ↦ let checked = checks-as spelled.0 in (checked.0, inl (spelled.0, spelled.1, checked.1))
      | inr faulty ↦ (is_refused (decode_fault faulty.0), inr (faulty.0, faulty.1, faulty.2, refl))
    ]

-- A program that octets are read as is accepted.
pub read-accepted : (octets : List ℕ) (code : List Instr) → ReadsAs octets (is_program code) → IsAccepted code
read-accepted octets code reads =
    elim reads [
      | inl spelled ↦ subst IsAccepted (sym spelled.2.1) spelled.2.0
      | inr faulty ↦ let no : is_program code ≡ is_refused (decode_fault faulty.0) = faulty.3 in absurd cc
    ]

-- A code is read in one way only.
pub checks-once : (code : List Instr) (one other : ProgramReading) → ChecksAs code one → ChecksAs code other → one ≡ other
checks-once code (is_program one) (is_program other) p q = ap (λ c. is_program c) (p.1 ∙ sym q.1)
checks-once code (is_program one) (is_refused other) p q = absurd (refused-from_fault code q.0 q.1 p.0)
checks-once code (is_refused one) (is_program other) p q = absurd (refused-from_fault code p.0 p.1 q.0)
checks-once code (is_refused one) (is_refused other) p q =
    ap (λ t. is_refused t) (p.2 ∙ ap verify_fault (one_comes_first code p.0 q.0 p.1 q.1) ∙ sym q.2)

-- Octets are read in one way only.
pub reads-once : (octets : List ℕ) (one other : ProgramReading) → ReadsAs octets one → ReadsAs octets other → one ≡ other
reads-once octets one other (inl p) (inl q) =
    let P : List Instr → Type 0 = λ code. ChecksAs code other in
    checks-once p.0 one other p.2 (subst P (SpellsCode-unique octets q.0 p.0 q.1 p.1) q.2)
reads-once octets one other (inl p) (inr q) = absurd (code-no_fault octets p.0 q.0 p.1 q.1 q.2)
reads-once octets one other (inr p) (inl q) = absurd (code-no_fault octets q.0 p.0 q.1 p.1 p.2)
reads-once octets one other (inr p) (inr q) =
    let same = one-decode_fault octets p.0 q.0 p.1 q.1 p.2 q.2 in
    p.3 ∙ ap (λ f. is_refused (decode_fault f)) same ∙ sym q.3
