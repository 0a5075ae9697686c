-- Either the lines of a source are in the grammar and no label occurs twice, or a line has a fault.
use Rattle.std.proofs.Common.{◌≡◌, ◌⊎◌, ℕ, ◌+◌, List, [], ◌∷◌, ◌++◌, Option, Some, None, refl, inl, inr}
use Rattle.bpf_asm.specs.Faults.{IsFirstLineFault, IsLineFault}
use Rattle.bpf_asm.specs.Grammar.{AreLines, IsSourceLine, SourceLine}
use Rattle.bpf_asm.specs.Labels.{EachLabelOnce}
use Rattle.bpf_asm.specs.inner.Drafts.{IsReadTo}
use Rattle.bpf_asm.specs.declared.fault.AsmFault.{AsmFault}
use Rattle.bpf_asm.specs.declared.fault.AsmKind.{AsmKind}
use Rattle.bpf_asm.specs.declared.fault.AsmKind.TheVariants.{LabelTwice}
use Rattle.bpf_asm.proofs.drafts.Agreement.{both_once, label_split, no_last, read_more, read_none, holds_has}
use Rattle.bpf_asm.proofs.totality.LabelOrUnknown.{holds-or_unknown}
use Rattle.bpf_asm.proofs.totality.LineOrFault.{line-or_fault}
use Rattle.bpf_asm.proofs.drafts.Sources.{all_read, first_by}

-- A line after these parses and has none of their labels, or has a fault.
abbrev pub AddsOrFaulty : List SourceLine → List ℕ → Type 0
AddsOrFaulty lines octets = ((line : SourceLine) × IsSourceLine octets line × EachLabelOnce (lines ++ line ∷ [])) ⊎ ((kind : AsmKind) × IsLineFault lines octets kind)

-- A line that parses has a new label or none, or the label of an earlier line.
spelled-or_twice : (lines : List SourceLine) (octets : List ℕ) (line : SourceLine) (label : Option (List ℕ)) → EachLabelOnce lines → IsSourceLine octets line → line.label ≡ label → AddsOrFaulty lines octets
spelled-or_twice lines octets line None once is none =
    inl (line, is, λ one other name f g. once one other name (no_last lines line one name none f) (no_last lines line other name none g))
spelled-or_twice lines octets line (Some label) once is named =
    elim (holds-or_unknown lines label) [
      | inl found ↦ let h = holds_has lines label found.0 found.1 in inr (LabelTwice, (line, is, label, named, h.0, h.1))
      | inr new ↦ inl (line, is, λ one other name f g. both_once lines line label one other name named new once (label_split lines line one name f) (label_split lines line other name g))
    ]

-- Each line is added or has a fault.
line_after : (lines : List SourceLine) (octets : List ℕ) → EachLabelOnce lines → AddsOrFaulty lines octets
line_after lines octets once =
    elim (line-or_fault octets) [
      | inl spelled ↦ spelled-or_twice lines octets spelled.0 spelled.0.label once spelled.1 refl
      | inr bad ↦ inr (bad.0, bad.1 lines)
    ]

-- All lines are read, or one has the first fault.
abbrev pub LinesOrFaulty : List (List ℕ) → Type 0
LinesOrFaulty source = ((lines : List SourceLine) × AreLines source lines × EachLabelOnce lines) ⊎ ((fault : AsmFault) × IsFirstLineFault source fault)

-- The same for the lines that are left.
lines_after : (source left : List (List ℕ)) (lines : List SourceLine) (count : ℕ) → IsReadTo source left lines count → EachLabelOnce lines → LinesOrFaulty source
lines_after source [] lines count read once = inl (lines, all_read source [] lines count refl read, once)
lines_after source (octets ∷ left) lines count read once =
    elim (line_after lines octets once) [
      | inl more ↦ lines_after source left (lines ++ more.0 ∷ []) (count + 1) (read_more source left octets lines more.0 count more.1 read) more.2
      | inr bad ↦ let fault : AsmFault = record { line = count + 1; kind = bad.0 } in inr (fault, first_by source left octets lines count bad.0 fault read once bad.1 (refl, refl))
    ]

-- Either the lines of a source are in the grammar and no label occurs twice, or a line has a fault.
pub lines-or_fault : (source : List (List ℕ)) → LinesOrFaulty source
lines-or_fault source = lines_after source source [] 0 (read_none source) (λ one other label f g. cc)
