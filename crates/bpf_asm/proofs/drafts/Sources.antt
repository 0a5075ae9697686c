-- A source, line by line.
use Rattle.std.proofs.Common.{◌≡◌, ◌⊎◌, ℕ, ◌+◌, List, [], ◌∷◌, ◌++◌, length, sym, ap, ◌∙◌, subst, inl, inr, append-nil, length-append}
use Rattle.bpf_asm.specs.Faults.{IsFirstLineFault, IsLineFault, IsOutOfMemory}
use Rattle.bpf_asm.specs.Grammar.{AreLines, SourceLine}
use Rattle.bpf_asm.specs.Labels.{EachLabelOnce}
use Rattle.bpf_asm.specs.declared.unresolved.Draft.{Draft}
use Rattle.bpf_asm.specs.inner.Drafts.{Drafts, IsDraftTo, IsFaultAt, IsReadTo, IsTakeFault, AddsLine}
use Rattle.bpf_asm.specs.declared.fault.AsmFault.{AsmFault}
use Rattle.bpf_asm.specs.declared.fault.AsmKind.{AsmKind}
use Rattle.bpf_asm.specs.declared.fault.AsmKind.TheVariants.{BadLine, BadNumber, LabelTwice, UnknownLabel, Backward, TooFar, DanglingLabel, NoMemory}
use Rattle.bpf_asm.proofs.drafts.Agreement.{read_more}

-- A line that couldn't be read.
pub line_fault : (kind : AsmKind) (lines : List SourceLine) (octets : List ℕ) → ((before : List SourceLine) → IsLineFault before octets kind) → IsTakeFault lines octets kind
line_fault BadLine lines octets f = f lines
line_fault BadNumber lines octets f = f lines
line_fault LabelTwice lines octets f = f lines
line_fault UnknownLabel lines octets f = f lines
line_fault Backward lines octets f = f lines
line_fault TooFar lines octets f = f lines
line_fault DanglingLabel lines octets f = f lines
line_fault NoMemory lines octets f = tt

-- A fault of a line, after lines that have none.
pub first_by : (source left : List (List ℕ)) (octets : List ℕ) (lines : List SourceLine) (count : ℕ) (kind : AsmKind) (fault : AsmFault) → IsReadTo source (octets ∷ left) lines count → EachLabelOnce lines → IsLineFault lines octets kind → (fault.line ≡ count + 1) × (fault.kind ≡ kind) → IsFirstLineFault source fault
first_by source left octets lines count kind fault r once f at = record {
  before = r.done;
  here = octets;
  after = left;
  split = r.split;
  number = at.0 ∙ ap (λ (n : ℕ). n + 1) r.counted;
  lines = lines;
  spelled = r.spelled;
  once = once;
  faulty = subst (λ (k : AsmKind). IsLineFault lines octets k) (sym at.1) f;
}

-- The first line that has a fault.
pub first_fault : (source left : List (List ℕ)) (octets : List ℕ) (lines : List SourceLine) (count : ℕ) (kind : AsmKind) (fault : AsmFault) → IsReadTo source (octets ∷ left) lines count → EachLabelOnce lines → IsTakeFault lines octets kind → IsFaultAt (count + 1) kind fault → IsFirstLineFault source fault ⊎ IsOutOfMemory fault
first_fault source left octets lines count BadLine fault r once f at = inl (first_by source left octets lines count BadLine fault r once f at)
first_fault source left octets lines count BadNumber fault r once f at = inl (first_by source left octets lines count BadNumber fault r once f at)
first_fault source left octets lines count LabelTwice fault r once f at = inl (first_by source left octets lines count LabelTwice fault r once f at)
first_fault source left octets lines count UnknownLabel fault r once f at = absurd f
first_fault source left octets lines count Backward fault r once f at = absurd f
first_fault source left octets lines count TooFar fault r once f at = absurd f
first_fault source left octets lines count DanglingLabel fault r once f at = absurd f
first_fault source left octets lines count NoMemory fault r once f at = inr at

taken_by : (source left : List (List ℕ)) (octets : List ℕ) (lines : List SourceLine) (draft : Draft) (count : ℕ) → IsReadTo source (octets ∷ left) lines count → length lines ≡ count → AddsLine lines draft octets → IsDraftTo source left draft (count + 1)
taken_by source left octets lines draft count r n t = record {
  lines = lines ++ t.line ∷ [];
  read = read_more source left octets lines t.line count t.spelled r;
  counted = length-append lines (t.line ∷ []) ∙ ap (λ (m : ℕ). m + 1) n;
  drafts = t.drafts;
}

-- One more line.
pub taken_more : (source left : List (List ℕ)) (octets : List ℕ) (old draft : Draft) (count : ℕ) → IsDraftTo source (octets ∷ left) old count → ((lines : List SourceLine) → length lines ≡ count → Drafts lines old → AddsLine lines draft octets) → IsDraftTo source left draft (count + 1)
taken_more source left octets old draft count r t = taken_by source left octets r.lines draft count r.read r.counted (t r.lines r.counted r.drafts)

-- All lines.
pub all_read : (source left : List (List ℕ)) (lines : List SourceLine) (count : ℕ) → left ≡ [] → IsReadTo source left lines count → AreLines source lines
all_read source left lines count e r =
    let whole : source ≡ r.done = r.split ∙ ap (λ (rest : List (List ℕ)). r.done ++ rest) e ∙ append-nil r.done in
    rw whole r.spelled
